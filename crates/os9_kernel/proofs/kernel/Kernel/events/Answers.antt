use Rattle.std.proofs.Common.{◌≡◌, ◌∷◌, ◌++◌, false, refl, sym, ap, ◌∙◌, inl, inr, ◌⊎◌, arith}
use Rattle.machine_model.specs.declared.ends.EventEnd.{EventEnd}
use Rattle.machine_model.specs.declared.ends.EventEnd.TheVariants.{Ran, Waits, Ended, NoMemory}
use Rattle.machine_model.specs.Run.{FirstSteps, is_going}
use Rattle.os9_kernel.proofs.Changing.{keeps-more}
use Rattle.os9_kernel.proofs.Turns.{turned, turn-continues, turn-begins, turn-ends, used-up, begun-here}
use Rattle.os9_kernel.proofs.kernel.Kernel.events.Goals as goal

stops : (end : EventEnd) → (end ≡ Waits) ⊎ (end ≡ Ended) → is_going end ≡ false
stops end (inl is) = ap is_going is
stops end (inr is) = ap is_going is

other : (end : EventEnd) → (end ≡ Waits) ⊎ (end ≡ Ended) → end ≡ NoMemory → ⊥
other end (inl is) out = let no : Waits ≡ NoMemory = sym is ∙ out in cc
other end (inr is) out = let no : Ended ≡ NoMemory = sym is ∙ out in cc

pub loop-left-preserved : goal.loop-left-preserved
loop-left-preserved g c =
    let turn = c.turn-turn.ensures.turn in record {
      going = turn.going c.in-Ran.is;
      terminal = c.turn-turn.ensures.terminals ∙ c.loop-left.invariant.terminal;
      drives = c.turn-turn.ensures.drives ∙ c.loop-left.invariant.drives;
      count = turn.count (λ out. let no : Ran ≡ NoMemory = sym c.in-Ran.is ∙ out in cc) ∙ c.loop-left.invariant.count;
      stands =
          let (m, there) = c.loop-left.invariant.stands in
          let (t, events, now) = turn.step (λ out. let no : Ran ≡ NoMemory = sym c.in-Ran.is ∙ out in cc) m there in
          (t, now);
      tied = λ s tied.
          let (m, all, there, continues, begins, kept) = c.loop-left.invariant.tied s tied in
          let (t, events, now) = turn.step (λ out. let no : Ran ≡ NoMemory = sym c.in-Ran.is ∙ out in cc) m there in
          let it = turned m t c.turn-turn.result.end c.turn-turn.result.count events c.in-Ran.is c.loop-left.left (omega arith) turn.few in (
            t,
            all ++ (it.first ∷ it.later),
            now,
            turn-continues c.args.n c.loop-left.left _ s m t all it continues,
            turn-begins c.args.n c.loop-left.left _ s m t all it begins,
            keeps-more (FirstSteps c.args.n s) all m it.first Ran it.later _ _ _ (begun-here c.args.n c.loop-left.left
                s m all (omega arith) begins) it.event kept (λ drive unasked. turn.images m drive there unasked),
          );
    }

pub returns-in-Waits-clause-events : goal.returns-in-Waits-clause-events
returns-in-Waits-clause-events g c =
    let turn = c.turn-turn.ensures.turn in record {
      step = λ _ s tied.
          let (m, all, there, continues, begins, kept) = c.loop-left.invariant.tied s tied in
          let (t, events, now) = turn.step (other c.turn-turn.result.end c.in-Waits.is) m there in
          let (first, later, steps) = turn-ends m t c.turn-turn.result.end c.turn-turn.result.count events (stops c.turn-turn.result.end c.in-Waits.is) c.loop-left.left (omega arith) turn.few in
          let (some, end, event, over) = steps in (
            all ++ (first ∷ later),
            t,
            continues (first ∷ later) t steps,
            now,
            keeps-more (FirstSteps c.args.n s) all m first end later _ _ _ (begun-here c.args.n c.loop-left.left s m
                all (omega arith) begins) event kept (λ drive unasked. turn.images m drive there unasked),
          );
      ran = λ _. refl;
      part = λ is. cc;
      count = λ _. turn.count (other c.turn-turn.result.end c.in-Waits.is) ∙ c.loop-left.invariant.count;
    }

pub returns-in-NoMemory-clause-events : goal.returns-in-NoMemory-clause-events
returns-in-NoMemory-clause-events g c =
    let turn = c.turn-turn.ensures.turn in record {
      step = λ e. absurd (e refl);
      ran = λ e. absurd (e refl);
      part = λ _ s tied.
          let (m, all, there, continues, begins, kept) = c.loop-left.invariant.tied s tied in
          (all, m, begun-here c.args.n c.loop-left.left s m all (omega arith) begins, turn.memory c.in-NoMemory.is m there);
      count = λ e. absurd (e refl);
    }

pub returns-clause-events : goal.returns-clause-events
returns-clause-events g c = record {
  step = λ _ s tied.
      let (m, all, there, continues, begins, kept) = c.loop-left.invariant.tied s tied in
      (all, m, used-up c.args.n c.loop-left.left s m all (omega arith) continues, there, kept);
  ran = λ _. refl;
  part = λ is. cc;
  count = λ _. c.loop-left.invariant.count;
}
