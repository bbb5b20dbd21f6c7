-- A slice and a run are built of the events that there are: what they have by what each event has.
use Rattle.std.proofs.Common.{◌≡◌, ℕ, zero, suc, ◌+◌, ◌-◌, ◌*◌, ◌<◌, ◌≤◌, Bool, true, false, Option, Some, None, List, [], ◌∷◌, ◌++◌, refl, sym, ap, ◌∙◌, subst, inl, inr, arith}
use Rattle.std.specs.Prelude.{IfSome, MatchBool, MatchOption, option_map, ◌&&◌}
use Rattle.os9_base.specs.declared.registers.Pid.{Pid}
use Rattle.os9_outer.specs.TerminalState.{TerminalState, fault_counts}
use Rattle.proc_model.specs.Records.{IsLiving, is_living}
use Rattle.proc_model.specs.Turns.{IsToChoose}
use Rattle.proc_model.proofs.EldestLaws.{chosen_if}
use Rattle.proc_model.specs.Choice.{after_choice, choice_of}
use Rattle.proc_model.specs.Processes.{Processes}
use Rattle.proc_model.specs.Ready.{Act, act_of, attempts, delivers, executes, is_ready}
use Rattle.file_rules.specs.Locking.{files_may_go}
use Rattle.machine_model.specs.Console.{console_bytes, terminals_emptied}
use Rattle.machine_model.specs.ProcessEvent.{cost_of}
use Rattle.machine_model.specs.declared.ends.EventEnd.{EventEnd}
use Rattle.machine_model.specs.declared.ends.SliceEnd.{SliceEnd}
use Rattle.machine_model.specs.Event.{Event, cost}
use Rattle.machine_model.specs.Run.{Choose, Run, Slice, SliceEvents, Tick, is_going}
use Rattle.machine_model.specs.State.{State, has_living}
use Rattle.run_laws.specs.Runs.{SameCounts}
use Rattle.run_laws.proofs.Going.{GoesOn, rank}
use Rattle.run_laws.proofs.SomeTicks.{SomeTick, some-tick}

-- the host has taken the bytes of the terminals
abbrev pub emptied : State → State
emptied m = record m { terms = terminals_emptied m.terms }

-- an event that there is, after which an instruction of the process is nearer if it goes on
pub record Next (Still : State → State → Type 0) (s : State) (p : ℕ) : Type 0 where
  pub end : EventEnd
  pub last : State
  pub event : Event s end last
  pub chosen : last.chosen ≡ s.chosen
  pub goes : is_going end ≡ true → GoesOn s.processes p last.processes
  pub counts : SameCounts s last
  pub still : Still s last

-- each state of a run that is built is Good, and has Still to each later one
pub record Builds (Good : State → Type 0) (Still : State → State → Type 0) : Type 0 where
  pub next : (s : State) (p : ℕ) → Good s → s.chosen ≡ Some p → IsLiving s.processes.records p → Next Still s p
  pub event : (s t : State) (end : EventEnd) → Event s end t → Good s → Good t
  pub tick : (s t : State) → Tick s t → Good s → Good t
  pub choice : (s t : State) → Choose s t → Good s → Good t
  pub taken : (m : State) → Good m → Good (emptied m)
  pub same : (s : State) → Still s s
  pub then : (s m t : State) → Still s m → Still m t → Still s t
  pub ticked : (s t : State) → Tick s t → Still s t
  pub chose : (s t : State) → Choose s t → Still s t
  pub took : (m : State) → Still m (emptied m)

-- ---- an instruction comes nearer

cost-is : (s : State) (p : ℕ) → s.chosen ≡ Some p → cost s ≡ cost_of (act_of s.processes p)
cost-is s p chosen = rw chosen refl

rank-most : (act : Act) → rank act ≤ 2
rank-most (attempts code) = omega arith
rank-most (delivers signal) = omega arith
rank-most executes = omega arith

-- what is left of instructions, and of what may come before the next one, becomes less
nearer-end : (left : ℕ) (s : State) (p : ℕ) (t : State) → s.chosen ≡ Some p → 0 < left → GoesOn s.processes p t.processes
    → 3 * (left - cost s) + rank (act_of t.processes p) < 3 * left + rank (act_of s.processes p)
nearer-end left s p t chosen some goes =
    let most : rank (act_of t.processes p) ≤ 2 = rank-most (act_of t.processes p) in
    elim (goes.nearer) [
      | inl next ↦ (let one : cost s ≡ 1 = cost-is s p chosen ∙ ap cost_of next in omega arith)
      | inr less ↦ omega arith
    ]

-- who is chosen lives
chosen-lives : (io : ℕ → Bool) (m : Processes) (pid : Pid) → (choice_of io m).chosen ≡ Some pid → IsLiving m.records pid.0
chosen-lives io m pid is =
    let choice : IsToChoose (is_ready io m) m.order pid = subst (λ chosen. IfSome chosen (IsToChoose (is_ready io m) m.order)) is (chosen_if (is_ready io m) m.order) in
    first-true (is_living m.records pid.0) _ choice.ready
  where
    first-true : (one other : Bool) → (one && other) ≡ true → one ≡ true
    first-true true other both = refl
    first-true false other both = both

abbrev begun : State → State
begun s = record s {
  processes = after_choice (files_may_go s.files s.processes.tick) s.processes;
  chosen = option_map (λ (p : Pid). p.0) (choice_of (files_may_go s.files s.processes.tick) s.processes).chosen;
}

-- the events of a slice, where this process is chosen or none is
abbrev Begun : ℕ → State → Option ℕ → List State → SliceEnd → State → Type 0
Begun n chosen who states end t =
    MatchOption who ((end ≡ SliceEnd.Idle) × (states ≡ []) × (t ≡ chosen)) (λ p. (end ≡ SliceEnd.Ran) × SliceEvents n chosen states t)

-- a run over a slice and others, where a process lives or none does
abbrev Begins : Bool → ℕ → List ℕ → State → List State → List ℕ → State → Type 0
Begins living n ns s states written t =
    MatchBool living
    ((end : SliceEnd) × (m : State) × (first later : List State) × (rest : List ℕ) × Slice n s first end m × (states ≡ first ++ later)
    × (written ≡ console_bytes m.terms ++ rest) × Run ns (record m { terms = terminals_emptied m.terms }) later rest t)
    ((states ≡ []) × (written ≡ []) × (t ≡ s))

counts-emptied : (terms : List TerminalState) → fault_counts (terminals_emptied terms) ≡ fault_counts terms
counts-emptied [] = refl
counts-emptied (x ∷ terms) = ap (λ (counts : List ℕ). x.faults ∷ counts) (counts-emptied terms)

module _ (Good : State → Type 0) (Still : State → State → Type 0) (builds : Builds Good Still) where
  -- ---- a slice

  -- the rest of a slice
  record SomeSteps (left : ℕ) (s : State) : Type 0 where
    pub states : List State
    pub last : State
    pub steps : SliceEvents left s states last
    pub good : Good last
    pub counts : SameCounts s last
    pub still : Still s last

  steps-by : (left : ℕ) (s : State) (p : ℕ) (next : Next Still s p) → Good next.last → 0 < left → (going : Bool) → is_going next.end ≡ going
      → (GoesOn s.processes p next.last.processes → SomeSteps (left - cost s) next.last) → SomeSteps left s
  steps-by left s p next good some true is rest_of =
      let rest : SomeSteps (left - cost s) next.last = rest_of (next.goes is) in
      record {
        states = next.last ∷ rest.states;
        last = rest.last;
        steps = (
          some,
          next.end,
          next.event,
          subst (λ (going : Bool). MatchBool going (SliceEvents (left - cost s) next.last rest.states rest.last) ((rest.states ≡ []) × (rest.last ≡ next.last))) (sym is) rest.steps,
        );
        good = rest.good;
        counts = rest.counts ∙ next.counts;
        still = builds.then s next.last rest.last next.still rest.still;
      }
  steps-by left s p next good some false is rest_of = record {
    states = next.last ∷ [];
    last = next.last;
    steps = (
      some,
      next.end,
      next.event,
      subst (λ (going : Bool). MatchBool going (SliceEvents (left - cost s) next.last [] next.last) ((let none : List State = [] in none ≡ []) × (next.last ≡ next.last))) (sym is) (refl, refl),
    );
    good = good;
    counts = next.counts;
    still = next.still;
  }

  steps-end : (most left : ℕ) (s : State) (p : ℕ) → 3 * left + rank (act_of s.processes p) < most → s.chosen ≡ Some p → IsLiving s.processes.records p → Good s → SomeSteps left s
  steps-end zero left s p less chosen lives good = absurd (omega arith)
  steps-end (suc most) zero s p less chosen lives good =
      record { states = []; last = s; steps = (refl, refl); good = good; counts = refl; still = builds.same s }
  steps-end (suc most) (suc left) s p less chosen lives good =
      let next : Next Still s p = builds.next s p good chosen lives in
      steps-by (suc left) s p next (builds.event s next.last next.end next.event good) (omega arith) (is_going next.end) refl
      (λ (goes : GoesOn s.processes p next.last.processes). steps-end most (suc left - cost s) next.last p (let nearer =
      nearer-end (suc left) s p next.last chosen (omega arith) goes in omega arith) (next.chosen ∙ chosen) goes.lives (builds.event s next.last next.end next.event good))

  pub record SomeSlice (n : ℕ) (s : State) : Type 0 where
    pub states : List State
    pub end : SliceEnd
    pub last : State
    pub slice : Slice n s states end last
    pub good : Good last
    pub counts : SameCounts s last
    pub still : Still s last

  pub some-slice : (n : ℕ) (s : State) → Good s → SomeSlice n s
  some-slice n s good = by_tick (some-tick s)
    where
      still-begun : (it : SomeTick s) → Still s (begun it.last)
      still-begun it =
          builds.then s it.last (begun it.last) (builds.ticked s it.last it.tick) (builds.chose it.last (begun it.last) refl)

      by_chosen : (it : SomeTick s) → Good (begun it.last) → (chosen : Option Pid) → (choice_of (files_may_go it.last.files it.last.processes.tick) it.last.processes).chosen ≡ chosen → SomeSlice n s
      by_chosen it good None is = record {
        states = [];
        end = SliceEnd.Idle;
        last = begun it.last;
        slice = (
          it.last,
          begun it.last,
          it.tick,
          refl,
          subst (λ (who : Option ℕ). Begun n (begun it.last) who [] SliceEnd.Idle (begun it.last)) (sym (ap (option_map (λ (p : Pid). p.0)) is)) (refl, refl, refl),
        );
        good = good;
        counts = it.counts;
        still = still-begun it;
      }
      by_chosen it good (Some pid) is =
          let who : (begun it.last).chosen ≡ Some pid.0 = ap (option_map (λ (p : Pid). p.0)) is in
          let ending : SomeSteps n (begun it.last) = steps-end (3 * n + rank (act_of (begun it.last).processes pid.0) + 1) n (begun it.last) pid.0 (omega arith) who
          (chosen-lives (files_may_go it.last.files it.last.processes.tick) it.last.processes pid is) good in
          record {
            states = ending.states;
            end = SliceEnd.Ran;
            last = ending.last;
            slice = (
              it.last,
              begun it.last,
              it.tick,
              refl,
              subst (λ (who : Option ℕ). Begun n (begun it.last) who ending.states SliceEnd.Ran ending.last) (sym who) (refl, ending.steps),
            );
            good = ending.good;
            counts = ending.counts ∙ it.counts;
            still = builds.then s (begun it.last) ending.last (still-begun it) ending.still;
          }

      by_tick : SomeTick s → SomeSlice n s
      by_tick it =
          by_chosen it (builds.choice it.last (begun it.last) refl (builds.tick s it.last it.tick good)) (choice_of (files_may_go it.last.files it.last.processes.tick) it.last.processes).chosen refl

  -- ---- a run

  pub record SomeRun (slices : List ℕ) (s : State) : Type 0 where
    pub states : List State
    pub written : List ℕ
    pub last : State
    pub run : Run slices s states written last
    pub counts : SameCounts s last
    pub still : Still s last

  pub some-run : (slices : List ℕ) (s : State) → Good s → SomeRun slices s
  some-run [] s good =
      record { states = []; written = []; last = s; run = (refl, refl, refl); counts = refl; still = builds.same s }
  some-run (n ∷ ns) s good =
      let some : SomeSlice n s = some-slice n s good in
      by_living some (some-run ns (emptied some.last) (builds.taken some.last some.good)) (has_living s) refl
    where
      by_living : (slice : SomeSlice n s) → SomeRun ns (emptied slice.last) → (living : Bool) → has_living s ≡ living → SomeRun (n ∷ ns) s
      by_living slice rest true is = record {
        states = slice.states ++ rest.states;
        written = console_bytes slice.last.terms ++ rest.written;
        last = rest.last;
        run =
            subst (λ (living : Bool). Begins living n ns s (slice.states ++ rest.states) (console_bytes slice.last.terms ++ rest.written) rest.last) (sym is)
            (slice.end, slice.last, slice.states, rest.states, rest.written, slice.slice, refl, refl, rest.run);
        counts = rest.counts ∙ counts-emptied slice.last.terms ∙ slice.counts;
        still =
            builds.then s slice.last rest.last slice.still (builds.then slice.last (emptied slice.last) rest.last (builds.took slice.last) rest.still);
      }
      by_living slice rest false is = record {
        states = [];
        written = [];
        last = s;
        run = subst (λ (living : Bool). Begins living n ns s [] [] s) (sym is) (refl, refl, refl);
        counts = refl;
        still = builds.same s;
      }
