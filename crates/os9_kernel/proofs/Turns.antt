-- Turns, one after another, make a slice.
use Rattle.std.proofs.Common.{◌≡◌, ℕ, ◌+◌, ◌-◌, ◌<◌, ◌≤◌, false, Option, Some, None, List, [], ◌∷◌, ◌++◌, inl, inr, refl, sym, ◌∙◌, subst, arith, append_assoc, append-nil}
use Rattle.std.specs.Prelude.{MatchOption}
use Rattle.os9_base.specs.declared.registers.Pid.{Pid}
use Rattle.machine_model.specs.declared.ends.EventEnd.{EventEnd}
use Rattle.machine_model.specs.declared.ends.SliceEnd.TheVariants.{Idle, Ran}
use Rattle.machine_model.specs.ProcessEvent.{cost_of}
use Rattle.machine_model.specs.Event.{Event, cost}
use Rattle.machine_model.specs.Run.{SliceEvents, FirstSteps, Slice, Tick, Choose, is_going}
use Rattle.machine_model.specs.State.{State}
use Rattle.os9_kernel.specs.declared.act.Act.{Act}
use Rattle.os9_kernel.specs.declared.kernel.Kernel.{Kernel}
use Rattle.os9_kernel.specs.Calls.{KernelEvent}
use Rattle.os9_kernel.specs.Next.{DoesNext, HasTurn, act_in_machine}
use Rattle.os9_kernel.specs.Outside.{Outside}
use Rattle.os9_kernel.specs.Slice.{Instructions, IsTurn, last, more}
use Rattle.os9_kernel.specs.Tie.{pending}
use Rattle.os9_kernel.proofs.Acting.{cost-is}

-- an event that costs nothing is a turn
pub turn-of : (left : ℕ) (old new : Kernel) (p : Pid) (act : Act) (next : DoesNext old p act)
    → cost_of (act_in_machine act) ≡ 0 → (before after : Outside) (end : EventEnd) → KernelEvent old new before after end
    → (end ≡ EventEnd.Ran → pending new < pending old) → HasTurn left old new before after
    (record { count = 0; end = end })
turn-of left old new p act next free before after end event progress = record {
  step = λ other s tied.
      let (t, happens, there) = event.step other s tied in
      (t, inl (refl, cost-is old p act next before s tied ∙ free, happens), there);
  memory = event.memory;
  going = event.going;
  few = omega arith;
  progress = λ ran. omega (arith, progress ran);
  count = event.count;
  images = event.images;
}

-- ---- where a slice has come to

-- whatever goes on from m, with so many instructions left, goes on from s with n left, behind these states
abbrev pub ContinuesFrom : ℕ → State → List State → ℕ → State → Type 0
ContinuesFrom n s all left m =
    (states : List State) (t : State) → SliceEvents left m states t → SliceEvents n s (all ++ states) t

-- and the first steps from m, with so many instructions left, are first steps from s with n left
abbrev pub BeginsFrom : ℕ → State → List State → ℕ → State → Type 0
BeginsFrom n s all left m =
    (states : List State) (t : State) → FirstSteps left m states t → FirstSteps n s (all ++ states) t

-- the states behind a turn, with so many instructions left before it and behind it: steps from the last are steps from
-- here
pub record Turned (left : ℕ) (m : State) (rest : ℕ) (t : State) : Type 0 where
  pub first : State
  pub event : Event m EventEnd.Ran first
  pub later : List State
  pub steps : (states : List State) (u : State) → SliceEvents rest t states u → SliceEvents left m (first ∷ (later ++ states)) u
  pub begun : (states : List State) (u : State) → FirstSteps rest t states u → FirstSteps left m (first ∷ (later ++ states)) u

one-turned : (left : ℕ) (m t : State) → 0 < left → Event m EventEnd.Ran t → Turned left m (left - cost m) t
one-turned left m t some event = record {
  first = t;
  event = event;
  later = [];
  steps = λ states u rest. (some, EventEnd.Ran, event, rest);
  begun = λ states u rest. (some, event, rest);
}

-- one event before a turn
before-turned : (left rest : ℕ) (m u t : State) → 0 < left → Event m EventEnd.Ran u → Turned (left - cost m) u rest t → Turned left m rest t
before-turned left rest m u t some event it = record {
  first = u;
  event = event;
  later = it.first ∷ it.later;
  steps = λ states v more. (some, EventEnd.Ran, event, it.steps states v more);
  begun = λ states v more. (some, event, it.begun states v more);
}

-- instructions behind which the process goes on
instructed : {m t : State} {end : EventEnd} {count : ℕ} → Instructions m count end t → end ≡ EventEnd.Ran → (left : ℕ) → count ≤ left → Turned left m (left - count) t
instructed (last {s = m} {t = t} one event) is left few =
    subst (λ n. Turned left m (left - n) t) one (one-turned left m t (omega (arith, few)) (subst (λ (e : EventEnd). Event m e t) is event))
instructed (more {count = count} {s = m} {m = next} {t = t} one event rest) is left few =
    let left_is : left - cost m - count ≡ left - (count + 1) = omega (arith, one, few) in
    subst (λ k. Turned left m k t) left_is (before-turned left (left - cost m - count) m next t (omega (arith, few)) event (instructed rest is (left - cost m) (omega (arith, one, few))))

-- a turn behind which the process goes on
pub turned : (m t : State) (end : EventEnd) (count : ℕ) → IsTurn m count end t → end ≡ EventEnd.Ran → (left : ℕ) → 0 < left → count ≤ left → Turned left m (left - count) t
turned m t end count (inl (none, free, event)) is left some few =
    let rest : left - cost m ≡ left - count = omega (arith, none, free) in
    subst (λ k. Turned left m k t) rest (one-turned left m t some (subst (λ (e : EventEnd). Event m e t) is event))
turned m t end count (inr done) is left some few = instructed done is left few

-- from where the slice began
pub turn-continues : (n left rest : ℕ) (s m t : State) (all : List State) (it : Turned left m rest t) → ContinuesFrom n s all left m → ContinuesFrom n s (all ++ (it.first ∷ it.later)) rest t
turn-continues n left rest s m t all it so_far states u steps =
    subst (λ states. SliceEvents n s states u) (sym (append_assoc all (it.first ∷ it.later) states)) (so_far (it.first ∷ (it.later ++ states)) u (it.steps states u steps))

pub turn-begins : (n left rest : ℕ) (s m t : State) (all : List State) (it : Turned left m rest t) → BeginsFrom n s all left m → BeginsFrom n s (all ++ (it.first ∷ it.later)) rest t
turn-begins n left rest s m t all it so_far states u steps =
    subst (λ states. FirstSteps n s states u) (sym (append_assoc all (it.first ∷ it.later) states)) (so_far (it.first ∷ (it.later ++ states)) u (it.begun states u steps))

-- a turn behind which it does not
instructions-end : {m t : State} {end : EventEnd} {count : ℕ} → Instructions m count end t → is_going end ≡ false
    → (left : ℕ) → count ≤ left → (first : State) × (later : List State) × SliceEvents left m (first ∷ later) t
instructions-end (last {t = t} {end = end} one event) over left few =
    (t, [], (omega (arith, few), end, event, rw over (refl, refl)))
instructions-end (more {s = m} {m = next} one event rest) over left few =
    let (first, later, steps) = instructions-end rest over (left - cost m) (omega (arith, one, few)) in
    (next, first ∷ later, (omega (arith, few), EventEnd.Ran, event, steps))

pub turn-ends : (m t : State) (end : EventEnd) (count : ℕ) → IsTurn m count end t → is_going end ≡ false → (left : ℕ)
    → 0 < left → count ≤ left → (first : State) × (later : List State) × SliceEvents left m (first ∷ later) t
turn-ends m t end count (inl (none, free, event)) over left some few =
    (t, [], (some, end, event, rw over (refl, refl)))
turn-ends m t end count (inr done) over left some few = instructions-end done over left few

-- the slice is over where its instructions are executed
pub used-up : (n left : ℕ) (s m : State) (all : List State) → left ≡ 0 → ContinuesFrom n s all left m → SliceEvents n s all m
used-up n left s m all none so_far =
    subst (λ states. SliceEvents n s states m) (append-nil all) (so_far [] m (none, refl))

pub begun-here : (n left : ℕ) (s m : State) (all : List State) → 0 < left → BeginsFrom n s all left m → FirstSteps n s all m
begun-here n left s m all some so_far =
    subst (λ states. FirstSteps n s states m) (append-nil all) (so_far [] m (some, refl))

-- ---- the slice

-- nobody was chosen
pub slice-idle : (n : ℕ) (s ticked chosen : State) → Tick s ticked → Choose ticked chosen → chosen.chosen ≡ None → Slice n s [] Idle chosen
slice-idle n s ticked chosen ticks chooses none =
    let nothing : List State = [] in (
      ticked,
      chosen,
      ticks,
      chooses,
      subst (λ (who : Option ℕ). MatchOption who ((Idle ≡ Idle) × (nothing ≡ nothing) × (chosen ≡ chosen)) (λ p. (Idle ≡ Ran) × SliceEvents n chosen nothing chosen)) (sym none) (refl, refl, refl),
    )

-- somebody was
pub slice-ran : (n p : ℕ) (s ticked chosen t : State) (states : List State) → Tick s ticked → Choose ticked chosen → chosen.chosen ≡ Some p → SliceEvents n chosen states t → Slice n s states Ran t
slice-ran n p s ticked chosen t states ticks chooses some steps = (
  ticked,
  chosen,
  ticks,
  chooses,
  subst (λ (who : Option ℕ). MatchOption who ((Ran ≡ Idle) × (states ≡ []) × (t ≡ chosen)) (λ p. (Ran ≡ Ran) × SliceEvents n chosen states t)) (sym some) (refl, steps),
)

done-some : {m t : State} {end : EventEnd} {count : ℕ} → Instructions m count end t → 0 < count
done-some (last one event) = omega arith
done-some (more one event rest) = omega arith

single-done : {m t : State} {end : EventEnd} {count : ℕ} → Instructions m count end t → count ≤ 1 → Event m end t
single-done (last one event) few = event
single-done (more one event rest) few = absurd (omega (arith, few, done-some rest))

-- if one instruction is left, an instruction is the only event
pub single : (m t : State) (end : EventEnd) (count : ℕ) → IsTurn m count end t → count ≤ 1 → cost m ≡ 1 → Event m end t
single m t end count (inl (none, free, event)) few one = event
single m t end count (inr done) few one = single-done done few

pub single-count : (m t : State) (end : EventEnd) (count : ℕ) → IsTurn m count end t → count ≤ 1 → cost m ≡ 1 → count ≡ cost m
single-count m t end count (inl (none, free, event)) few one = absurd (omega (arith, free, one))
single-count m t end count (inr done) few one = omega (arith, done-some done, few, one)
