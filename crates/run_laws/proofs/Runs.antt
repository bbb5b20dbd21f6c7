-- Slices and runs without faults are one, in states of which something holds that each step keeps and that leaves
-- the machine nothing to choose.
use Rattle.std.proofs.Common.{◌≡◌, ◌⊎◌, ℕ, zero, suc, ◌+◌, ◌-◌, ◌<◌, ◌≤◌, Bool, true, false, Option, Some, None, List, [], ◌∷◌, ◌++◌, refl, sym, ap, ◌∙◌, subst, inl, inr, arith}
use Rattle.std.specs.Prelude.{MatchBool, MatchOption, option_map}
use Rattle.os9_base.specs.declared.registers.Pid.{Pid}
use Rattle.os9_outer.specs.TerminalState.{TerminalState}
use Rattle.proc_model.specs.Choice.{choice_of, after_choice}
use Rattle.file_rules.specs.Locking.{files_may_go}
use Rattle.file_rules.specs.Files.{DriveState, drive_at}
use Rattle.machine_model.specs.Console.{console_bytes, terminals_emptied}
use Rattle.machine_model.proofs.TerminalLaws.{gain-emptied}
use Rattle.machine_model.specs.declared.ends.EventEnd.{EventEnd}
use Rattle.machine_model.specs.declared.ends.SliceEnd.{SliceEnd}
use Rattle.machine_model.specs.declared.ends.SliceEnd.TheVariants.{Idle, Ran}
use Rattle.machine_model.specs.Devices.{DrivesOnlyGain, OnlyGain}
use Rattle.machine_model.specs.Event.{Event, cost}
use Rattle.machine_model.specs.Run.{Choose, Run, Slice, SliceEvents, Tick, is_going}
use Rattle.machine_model.specs.State.{State, has_living}
use Rattle.machine_model.proofs.Drives.{drives-same, drives-then}
use Rattle.machine_model.proofs.Gains.{event-gains, run-gains, slice-gains, tick-gains}
use Rattle.machine_model.proofs.TerminalLaws.{gain-same, gain-then}
use Rattle.run_laws.specs.Faults.{HasNoVolumes, MayChoose, NoDriveFailed, NoneFailed, SameButClusters, SameEvent, SameRun, SameSlice}
use Rattle.run_laws.proofs.Events.{event-one, tick-one}
use Rattle.run_laws.specs.Reached.{NeverChooses, ReachesState, by_choice, by_emptying, by_event, by_tick, here}
use Rattle.run_laws.proofs.Kept.{choice-bare, event-bare, never-chooses, tick-bare}
use Rattle.run_laws.proofs.Terminals.{first-none, rose-before, rose-later, then-none}

-- ---- states from which no choice is reached

keeps-event : (s t : State) (end : EventEnd) → Event s end t → NeverChooses s → NeverChooses t
keeps-event s t end event never m reached = never m (by_event end event reached)

keeps-tick : (s t : State) → Tick s t → NeverChooses s → NeverChooses t
keeps-tick s t ticks never m reached = never m (by_tick ticks reached)

keeps-choice : (s t : State) → Choose s t → NeverChooses s → NeverChooses t
keeps-choice s t chooses never m reached = never m (by_choice chooses reached)

keeps-emptied : (s : State) → NeverChooses s → NeverChooses (record s { terms = terminals_emptied s.terms })
keeps-emptied s never m reached = never m (by_emptying reached)

reached-bare : (s m : State) → ReachesState s m → HasNoVolumes s → HasNoVolumes m
reached-bare s m here bare = bare
reached-bare s m (by_event {next = next} end event rest) bare = reached-bare next m rest (event-bare s next end event bare)
reached-bare s m (by_tick {next = next} ticks rest) bare = reached-bare next m rest (tick-bare s next ticks bare)
reached-bare s m (by_choice {next = next} chooses rest) bare = reached-bare next m rest (choice-bare s next chooses bare)
reached-bare s m (by_emptying rest) bare = reached-bare (record s { terms = terminals_emptied s.terms }) m rest bare

-- without volumes none is
pub bare-never : (s : State) → HasNoVolumes s → NeverChooses s
bare-never s bare m reached = never-chooses m (reached-bare s m reached bare)

-- ---- counts over two steps

none-first : (a b c : State) → OnlyGain a b → OnlyGain b c → NoneFailed a c → NoneFailed a b
none-first a b c one two none = record {
  terminals = first-none a.terms b.terms c.terms one.terminals two.terminals none.terminals;
  drives = λ drive rose. none.drives drive (rose-later _ (drive_at a.files.drives drive).faults
      (drive_at b.files.drives drive).faults (drive_at c.files.drives drive).faults rose (two.drives.faults drive));
}

none-then : (a b c : State) → OnlyGain a b → OnlyGain b c → NoneFailed a c → NoneFailed b c
none-then a b c one two none = record {
  terminals = then-none a.terms b.terms c.terms one.terminals two.terminals none.terminals;
  drives = λ drive rose. none.drives drive (rose-before _ (drive_at a.files.drives drive).faults
      (drive_at b.files.drives drive).faults (drive_at c.files.drives drive).faults (one.drives.faults drive) rose);
}

gain-self : (s t : State) → t ≡ s → OnlyGain s t
gain-self s t is =
    subst (OnlyGain s) (sym is) (record { terminals = gain-same s.terms; drives = drives-same s.files.drives })

gain-two : (a b c : State) → OnlyGain a b → OnlyGain b c → OnlyGain a c
gain-two a b c first next = record {
  terminals = gain-then a.terms b.terms c.terms first.terminals next.terminals;
  drives = drives-then a.files.drives b.files.drives c.files.drives first.drives next.drives;
}

-- ---- the events of a slice

-- the rest of a slice after an event
abbrev After : ℕ → Bool → State → List State → State → Type 0
After left going m ms t = MatchBool going (SliceEvents left m ms t) ((ms ≡ []) × (t ≡ m))

gain-steps : (left : ℕ) (s : State) (states : List State) (t : State) → SliceEvents left s states t → OnlyGain s t
gain-steps left s [] t (over, is) = gain-self s t is
gain-steps left s (m ∷ ms) t (some, end, event, steps) =
    gain-two s m t (event-gains s m end event) (rest (is_going end) (gain-steps (left - cost s) m ms t) steps)
  where
    rest : (going : Bool) → (SliceEvents (left - cost s) m ms t → OnlyGain m t) → After (left - cost s) going m ms t → OnlyGain m t
    rest true gains steps = gains steps
    rest false gains (over, is) = gain-self m t is

gain-after : (left : ℕ) (going : Bool) (m : State) (ms : List State) (t : State) → After left going m ms t → OnlyGain m t
gain-after left true m ms t steps = gain-steps left m ms t steps
gain-after left false m ms t (over, is) = gain-self m t is

-- the states of two slices, and the last one of each
record SameSteps (states others : List State) (t u : State) : Type 0 where
  pub through : states ≡ others
  pub last : t ≡ u

event-single : (s t u : State) (end other : EventEnd) → NeverChooses s → Event s end t → Event s other u → NoneFailed s t → NoneFailed s u → SameEvent end t other u
event-single s t u end other bare one two none none_too = by_one (event-one s t u end other one two none none_too)
  where
    by_one : SameButClusters s end t other u ⊎ SameEvent end t other u → SameEvent end t other u
    by_one (inl choose) = absurd (bare s here choose.choice)
    by_one (inr same) = same

steps-one : (left : ℕ) (s : State) (states others : List State) (t u : State) → NeverChooses s → SliceEvents left s states t
    → SliceEvents left s others u → NoneFailed s t → NoneFailed s u → SameSteps states others t u
steps-one left s [] [] t u bare (over, is) (over_too, is_too) none none_too = record { through = refl; last = is ∙ sym is_too }
steps-one left s [] (n ∷ ns) t u bare (over, is) (some, end, event, steps) none none_too = absurd (omega arith)
steps-one left s (m ∷ ms) [] t u bare (some, end, event, steps) (over, is) none none_too = absurd (omega arith)
steps-one left s (m ∷ ms) (n ∷ ns) t u bare (some, end, event, steps) (some_too, other, event_too, steps_too) none none_too =
    let gained = gain-after (left - cost s) (is_going end) m ms t steps in
    let gained_too = gain-after (left - cost s) (is_going other) n ns u steps_too in
    let one : SameEvent end m other n = event-single s m n end other bare event event_too
    (none-first s m t (event-gains s m end event) gained none) (none-first s n u (event-gains s n other event_too)
    gained_too none_too) in
    let after : After (left - cost s) (is_going end) m ns u = subst (λ m. After (left - cost s) (is_going end) m ns u)
    (sym one.last) (subst (λ end. After (left - cost s) (is_going end) n ns u) (sym one.ends) steps_too) in
    let later : NoneFailed m t = none-then s m t (event-gains s m end event) gained none in
    let later_too : NoneFailed n u = none-then s n u (event-gains s n other event_too) gained_too none_too in
    let rest : SameSteps ms ns t u = by_going (left - cost s) m ms ns t u (is_going end) (steps-one (left - cost s) m
    ms ns t u (keeps-event s m end event bare)) steps after later (subst (λ (m : State). NoneFailed m u)
    (sym one.last) later_too) in
    record { through = λ i. one.last i ∷ rest.through i; last = rest.last }
  where
    by_going : (left : ℕ) (m : State) (ms ns : List State) (t u : State) (going : Bool)
        → (SliceEvents left m ms t → SliceEvents left m ns u → NoneFailed m t → NoneFailed m u → SameSteps ms ns t u)
        → After left going m ms t → After left going m ns u → NoneFailed m t → NoneFailed m u → SameSteps ms ns t u
    by_going left m ms ns t u true others one two none none_too = others one two none none_too
    by_going left m ms ns t u false others (over, is) (over_too, is_too) none none_too = record { through = over ∙ sym over_too; last = is ∙ sym is_too }

bare-steps : (left : ℕ) (s : State) (states : List State) (t : State) → SliceEvents left s states t → NeverChooses s → NeverChooses t
bare-steps left s [] t (over, is) bare = subst NeverChooses (sym is) bare
bare-steps left s (m ∷ ms) t (some, end, event, steps) bare =
    rest (is_going end) (bare-steps (left - cost s) m ms t) steps (keeps-event s m end event bare)
  where
    rest : (going : Bool) → (SliceEvents (left - cost s) m ms t → NeverChooses m → NeverChooses t) → After (left - cost s) going m ms t → NeverChooses m → NeverChooses t
    rest true keeps steps bare = keeps steps bare
    rest false keeps (over, is) bare = subst NeverChooses (sym is) bare

-- ---- slices

-- the state of a slice once its process is chosen
abbrev begun : State → State
begun s = record s {
  processes = after_choice (files_may_go s.files s.processes.tick) s.processes;
  chosen = option_map (λ (p : Pid). p.0) (choice_of (files_may_go s.files s.processes.tick) s.processes).chosen;
}

-- its events then
abbrev Begun : ℕ → State → Option ℕ → List State → SliceEnd → State → Type 0
Begun n chosen who states end t =
    MatchOption who ((end ≡ Idle) × (states ≡ []) × (t ≡ chosen)) (λ p. (end ≡ Ran) × SliceEvents n chosen states t)

-- a slice, from its tick on
record BegunSlice (n : ℕ) (s : State) (states : List State) (end : SliceEnd) (t : State) : Type 0 where
  pub ticked : State
  pub ticks : Tick s ticked
  pub rest : Begun n (begun ticked) (begun ticked).chosen states end t

begun-slice : (n : ℕ) (s : State) (states : List State) (end : SliceEnd) (t : State) → Slice n s states end t → BegunSlice n s states end t
begun-slice n s states end t (ticked, chosen, ticks, chooses, rest) = record {
  ticked = ticked;
  ticks = ticks;
  rest = subst (λ (chosen : State). Begun n chosen chosen.chosen states end t) chooses rest;
}

begun-one : (n : ℕ) (chosen : State) (who : Option ℕ) (states others : List State) (end other : SliceEnd)
    (t u : State) → NeverChooses chosen → Begun n chosen who states end t → Begun n chosen who others other u
    → NoneFailed chosen t → NoneFailed chosen u → SameSlice states end t others other u
begun-one n chosen None states others end other t u bare (ends, over, is) (ends_too, over_too, is_too) none none_too =
    record { through = over ∙ sym over_too; ends = ends ∙ sym ends_too; last = is ∙ sym is_too }
begun-one n chosen (Some p) states others end other t u bare (ends, steps) (ends_too, steps_too) none none_too =
    let same : SameSteps states others t u = steps-one n chosen states others t u bare steps steps_too none none_too in
    record { through = same.through; ends = ends ∙ sym ends_too; last = same.last }

gain-begun : (n : ℕ) (chosen : State) (states : List State) (end : SliceEnd) (t : State) (who : Option ℕ) → Begun n chosen who states end t → OnlyGain chosen t
gain-begun n chosen states end t None (idle, none, is) = gain-self chosen t is
gain-begun n chosen states end t (Some p) (ran, steps) = gain-steps n chosen states t steps

bare-begun : (n : ℕ) (chosen : State) (states : List State) (end : SliceEnd) (t : State) (who : Option ℕ) → Begun n chosen who states end t → NeverChooses chosen → NeverChooses t
bare-begun n chosen states end t None (idle, none, is) bare = subst NeverChooses (sym is) bare
bare-begun n chosen states end t (Some p) (ran, steps) bare = bare-steps n chosen states t steps bare

-- the choice changes no device
gain-chosen : (ticked t : State) → OnlyGain (begun ticked) t → OnlyGain ticked t
gain-chosen ticked t gained = record { terminals = gained.terminals; drives = gained.drives }

none-chosen : (ticked t : State) → NoneFailed ticked t → NoneFailed (begun ticked) t
none-chosen ticked t none = record { terminals = none.terminals; drives = none.drives }

pub bare-slice : (n : ℕ) (s t : State) (states : List State) (end : SliceEnd) → Slice n s states end t → NeverChooses s → NeverChooses t
bare-slice n s t states end slice bare =
    let one : BegunSlice n s states end t = begun-slice n s states end t slice in
    bare-begun n (begun one.ticked) states end t (begun one.ticked).chosen one.rest (keeps-choice one.ticked (begun one.ticked) refl (keeps-tick s one.ticked one.ticks bare))

pub slice-one : (n : ℕ) (s t u : State) (states others : List State) (end other : SliceEnd) → NeverChooses s
    → Slice n s states end t → Slice n s others other u → NoneFailed s t → NoneFailed s u → SameSlice states end t
    others other u
slice-one n s t u states others end other bare slice second none none_too =
    let one : BegunSlice n s states end t = begun-slice n s states end t slice in
    let two : BegunSlice n s others other u = begun-slice n s others other u second in
    let gained = tick-gains s one.ticked one.ticks in
    let gained_too = tick-gains s two.ticked two.ticks in
    let after = gain-chosen one.ticked t (gain-begun n (begun one.ticked) states end t (begun one.ticked).chosen one.rest) in
    let after_too = gain-chosen two.ticked u (gain-begun n (begun two.ticked) others other u (begun two.ticked).chosen two.rest) in
    let same : one.ticked ≡ two.ticked = tick-one s one.ticked two.ticked one.ticks two.ticks (none-first s one.ticked t gained after none) (none-first s two.ticked u gained_too after_too none_too) in
    begun-one n (begun one.ticked) (begun one.ticked).chosen states others end other t u (keeps-choice one.ticked (begun one.ticked) refl (keeps-tick s one.ticked one.ticks bare)) one.rest
    (subst (λ (ticked : State). Begun n (begun ticked) (begun ticked).chosen others other u) (sym same) two.rest)
    (none-chosen one.ticked t (none-then s one.ticked t gained after none))
    (none-chosen one.ticked u (subst (λ (ticked : State). NoneFailed ticked u) (sym same) (none-then s two.ticked u gained_too after_too none_too)))

-- ---- runs

abbrev emptied : State → State
emptied m = record m { terms = terminals_emptied m.terms }

gain-empty : (m : State) → OnlyGain m (emptied m)
gain-empty m = record { terminals = gain-emptied m.terms; drives = drives-same m.files.drives }

-- a run over one slice and others, where a process lives
record Goes (n : ℕ) (ns : List ℕ) (s : State) (states : List State) (written : List ℕ) (t : State) : Type 0 where
  pub end : SliceEnd
  pub m : State
  pub first : List State
  pub later : List State
  pub rest : List ℕ
  pub slice : Slice n s first end m
  pub states_are : states ≡ first ++ later
  pub written_is : written ≡ console_bytes m.terms ++ rest
  pub after : Run ns (record m { terms = terminals_emptied m.terms }) later rest t

module _ {n : ℕ} {ns : List ℕ} {s : State} {states : List State} {written : List ℕ} {t : State} (run : Goes n ns s states written t) (none : NoneFailed s t) where
  gained : OnlyGain s run.m
  gained = slice-gains n s run.m run.first run.end run.slice

  gained_after : OnlyGain (emptied run.m) t
  gained_after = run-gains ns run.rest (emptied run.m) t run.later run.after

  none-slice : NoneFailed s run.m
  none-slice = none-first s run.m t gained (gain-two run.m (emptied run.m) t (gain-empty run.m) gained_after) none

  none-later : NoneFailed (emptied run.m) t
  none-later =
      none-then run.m (emptied run.m) t (gain-empty run.m) gained_after
      (none-then s run.m t gained (gain-two run.m (emptied run.m) t (gain-empty run.m) gained_after) none)

-- two runs over the same slices are one where the rest of them is
abbrev RunsOne : List ℕ → Type 0
RunsOne ns =
    (written bytes : List ℕ) (s t u : State) (states others : List State) → NeverChooses s → Run ns s states written t
    → Run ns s others bytes u → NoneFailed s t → NoneFailed s u → SameRun states written t others bytes u

goes-one : (n : ℕ) (ns : List ℕ) (s : State) (states others : List State) (written bytes : List ℕ) (t u : State)
    → RunsOne ns → NeverChooses s → (one : Goes n ns s states written t) → (other : Goes n ns s others bytes u)
    → NoneFailed s t → NoneFailed s u → SameRun states written t others bytes u
goes-one n ns s states others written bytes t u runs bare one other none none_too =
    let slices : SameSlice one.first one.end one.m other.first other.end other.m = slice-one n s one.m other.m
    one.first other.first one.end other.end bare one.slice other.slice (none-slice one none)
    (none-slice other none_too) in
    let after : Run ns (emptied one.m) other.later other.rest u = subst (λ m. Run ns (emptied m) other.later other.rest u) (sym slices.last) other.after in
    let later : NoneFailed (emptied one.m) u = subst (λ m. NoneFailed (emptied m) u) (sym slices.last) (none-later other none_too) in
    let rest : SameRun one.later one.rest t other.later other.rest u = runs one.rest other.rest (emptied one.m) t u
    one.later other.later (keeps-emptied one.m (bare-slice n s one.m one.first one.end one.slice bare)) one.after
    after (none-later one none) later in
    record {
      through = one.states_are ∙ (λ i. slices.through i ++ rest.through i) ∙ sym other.states_are;
      writes = one.written_is ∙ (λ i. console_bytes (slices.last i).terms ++ rest.writes i) ∙ sym other.written_is;
      last = rest.last;
    }

-- a run over one slice and others, by whether a process lives
abbrev Begins : Bool → ℕ → List ℕ → State → List State → List ℕ → State → Type 0
Begins living n ns s states written t =
    MatchBool living
    ((end : SliceEnd) × (m : State) × (first later : List State) × (rest : List ℕ) × Slice n s first end m
    × (states ≡ first ++ later) × (written ≡ console_bytes m.terms ++ rest)
    × Run ns (record m { terms = terminals_emptied m.terms }) later rest t)
    ((states ≡ []) × (written ≡ []) × (t ≡ s))

begins-one : (living : Bool) (n : ℕ) (ns : List ℕ) (s : State) (states others : List State) (written bytes : List ℕ)
    (t u : State) → RunsOne ns → NeverChooses s → Begins living n ns s states written t → Begins living n ns s others
    bytes u → NoneFailed s t → NoneFailed s u → SameRun states written t others bytes u
begins-one false n ns s states others written bytes t u runs bare (none, nothing, is) (none_too, nothing_too, is_too) ok ok_too =
    record { through = none ∙ sym none_too; writes = nothing ∙ sym nothing_too; last = is ∙ sym is_too }
begins-one true n ns s states others written bytes t u runs bare (end, m, first, later, rest, slice, all, put, after)
    (end_too, m_too, first_too, later_too, rest_too, slice_too, all_too, put_too, after_too) none none_too =
    goes-one n ns s states others written bytes t u runs bare
    (record { end = end; m = m; first = first; later = later; rest = rest; slice = slice; states_are = all; written_is = put; after = after })
    (record { end = end_too; m = m_too; first = first_too; later = later_too; rest = rest_too; slice = slice_too; states_are = all_too; written_is = put_too; after = after_too })
    none none_too

pub run-one : (slices written bytes : List ℕ) (s t u : State) (states others : List State) → NeverChooses s
    → Run slices s states written t → Run slices s others bytes u → NoneFailed s t → NoneFailed s u
    → SameRun states written t others bytes u
run-one [] written bytes s t u states others bare (none, nothing, is) (none_too, nothing_too, is_too) ok ok_too =
    record { through = none ∙ sym none_too; writes = nothing ∙ sym nothing_too; last = is ∙ sym is_too }
run-one (n ∷ ns) written bytes s t u states others bare one other none none_too =
    begins-one (has_living s) n ns s states others written bytes t u (run-one ns) bare one other none none_too
