-- What holds of every state of slices and runs.
use Rattle.std.proofs.Common.{◌≡◌, ℕ, ◌-◌, Bool, true, false, Option, Some, None, List, [], ◌∷◌, ◌++◌, sym, subst}
use Rattle.std.specs.Prelude.{MatchBool, MatchOption}
use Rattle.machine_model.specs.declared.ends.SliceEnd.{SliceEnd}
use Rattle.machine_model.specs.declared.ends.SliceEnd.TheVariants.{Idle, Ran}
use Rattle.machine_model.specs.Console.{console_bytes, terminals_emptied}
use Rattle.machine_model.specs.Event.{cost}
use Rattle.machine_model.specs.Run.{Run, Slice, SliceEvents, is_going}
use Rattle.machine_model.specs.State.{State, has_living}
use Rattle.call_laws.specs.Running.{AllRunning, IsRunning}
use Rattle.call_laws.proofs.Events.{event-running}
use Rattle.call_laws.proofs.RunningLaws.{choice-running, emptied-running, tick-running}

all-append : (first later : List State) (m t : State) → AllRunning first m → AllRunning later t → AllRunning (first ++ later) t
all-append [] later m t one two = two
all-append (x ∷ first) later m t one two =
    let rest = all-append first later m t (record { through = one.through.1; last = one.last }) two in
    record { through = (one.through.0, rest.through); last = rest.last }

last-of : (s t : State) → t ≡ s → IsRunning s → AllRunning [] t
last-of s t is running = record { through = tt; last = subst IsRunning (sym is) running }

steps-running : (left : ℕ) (s : State) (states : List State) (t : State) → SliceEvents left s states t → IsRunning s → AllRunning states t
steps-running left s [] t (over, is) running = last-of s t is running
steps-running left s (m ∷ ms) t (some, end, event, steps) running =
    let next : IsRunning m = event-running s m end event running in
    let rest : AllRunning ms t = by_going (is_going end) (λ steps. steps-running (left - cost s) m ms t steps next) next steps in
    record { through = (next, rest.through); last = rest.last }
  where
    by_going : (going : Bool) → (SliceEvents (left - cost s) m ms t → AllRunning ms t) → IsRunning m → MatchBool going (SliceEvents (left - cost s) m ms t) ((ms ≡ []) × (t ≡ m)) → AllRunning ms t
    by_going true others next steps = others steps
    by_going false others next (none, is) =
        subst (λ (ms : List State). AllRunning ms t) (sym none) (last-of m t is next)

chosen-running : (n : ℕ) (chosen : State) (states : List State) (end : SliceEnd) (t : State) (who : Option ℕ)
    → MatchOption who ((end ≡ Idle) × (states ≡ []) × (t ≡ chosen)) (λ p. (end ≡ Ran) × SliceEvents n chosen states t)
    → IsRunning chosen → AllRunning states t
chosen-running n chosen states end t None (idle, none, is) running =
    subst (λ (states : List State). AllRunning states t) (sym none) (last-of chosen t is running)
chosen-running n chosen states end t (Some p) (ran, steps) running = steps-running n chosen states t steps running

pub slice-running : (n : ℕ) (s t : State) (states : List State) (end : SliceEnd) → Slice n s states end t → IsRunning s → AllRunning states t
slice-running n s t states end (ticked, chosen, ticks, chooses, rest) running =
    chosen-running n chosen states end t chosen.chosen rest (choice-running ticked chosen chooses (tick-running s ticked ticks running))

pub run-running : (slices written : List ℕ) (s t : State) (states : List State) → Run slices s states written t → IsRunning s → AllRunning states t
run-running [] written s t states (none, nothing, is) running =
    subst (λ (states : List State). AllRunning states t) (sym none) (last-of s t is running)
run-running (n ∷ ns) written s t states run running =
    by_living (has_living s) (λ rest m later after now. run-running ns rest m t later after now) run
  where
    by_living : (living : Bool) → ((rest : List ℕ) (m : State) (later : List State) → Run ns m later rest t
        → IsRunning m → AllRunning later t) → MatchBool living ((end : SliceEnd) × (m : State) ×
        (first later : List State) × (rest : List ℕ) × Slice n s first end m × (states ≡ first ++ later) ×
        (written ≡ console_bytes m.terms ++ rest) × Run ns (record m { terms = terminals_emptied m.terms }) later rest
        t) ((states ≡ []) × (written ≡ []) × (t ≡ s)) → AllRunning states t
    by_living false others (none, nothing, is) =
        subst (λ (states : List State). AllRunning states t) (sym none) (last-of s t is running)
    by_living true others (end, m, first, later, rest, slice, all, bytes, after) =
        let one : AllRunning first m = slice-running n s m first end slice running in
        let two : AllRunning later t = others rest (record m { terms = terminals_emptied m.terms }) later after (emptied-running m one.last) in
        subst (λ (states : List State). AllRunning states t) (sym all) (all-append first later m t one two)
