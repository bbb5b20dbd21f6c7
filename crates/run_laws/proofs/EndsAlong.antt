-- The ends of the volumes along events, ticks and choices, and so along slices and runs.
use Rattle.std.proofs.Common.{◌≡◌, ℕ, ◌-◌, Bool, true, false, Option, Some, None, Result, Ok, Err, List, [], ◌∷◌, ◌++◌, refl, sym, ap, ◌∙◌, subst}
use Rattle.std.specs.Prelude.{MatchBool, MatchOption}
use Rattle.cpu_model.specs.Step.{Outcome, Done, Calls, Aborts}
use Rattle.proc_model.specs.Delivery.{delivered}
use Rattle.proc_model.specs.Processes.{Processes}
use Rattle.proc_model.specs.Ready.{Act, act_of, attempts, delivers, executes}
use Rattle.rbf_model.specs.Volume.{DiskVolume}
use Rattle.file_rules.specs.Files.{Files}
use Rattle.machine_model.specs.Console.{console_bytes, terminals_emptied}
use Rattle.machine_model.specs.ProcessEvent.{next_instruction}
use Rattle.machine_model.specs.declared.ends.EventEnd.{EventEnd}
use Rattle.machine_model.specs.declared.ends.EventEnd.TheVariants.{Ran}
use Rattle.machine_model.specs.declared.ends.SliceEnd.{SliceEnd}
use Rattle.machine_model.specs.declared.ends.SliceEnd.TheVariants.{Idle, Ran as SliceRan}
use Rattle.machine_model.specs.Event.{Acts, Event, before_delivery, cost, files_after_delivery, files_after_instruction}
use Rattle.machine_model.specs.Run.{BeginsSlice, Choose, FirstSteps, Run, Slice, SliceEvents, Tick, is_going}
use Rattle.machine_model.specs.Services.{service_of}
use Rattle.machine_model.specs.State.{State, has_living}
use Rattle.run_laws.specs.Ends.{VolumesKeepEnds}
use Rattle.run_laws.proofs.Attempts.{serves-keeps}
use Rattle.run_laws.proofs.Volumes.{Keep, keep-same, keep-then}

-- ---- two states

abbrev volumes_in : State → List (Option DiskVolume)
volumes_in s = s.files.volumes

by-volumes : (s t : State) → Keep (volumes_in s) (volumes_in t) → VolumesKeepEnds s t
by-volumes s t it = record { kept = it.kept; none = it.none }

of-states : (s t : State) → VolumesKeepEnds s t → Keep (volumes_in s) (volumes_in t)
of-states s t it = record { kept = it.kept; none = it.none }

-- no volume is another one
keeps-same : (s t : State) → volumes_in t ≡ volumes_in s → VolumesKeepEnds s t
keeps-same s t is = by-volumes s t (keep-same (volumes_in s) (volumes_in t) is)

keeps-then : (a b c : State) → VolumesKeepEnds a b → VolumesKeepEnds b c → VolumesKeepEnds a c
keeps-then a b c first next =
    by-volumes a c (keep-then (volumes_in a) (volumes_in b) (volumes_in c) (of-states a b first) (of-states b c next))

-- ---- an event

instruction-volumes : (files : Files) (p : ℕ) (outcome : Outcome) → (files_after_instruction files p outcome).volumes ≡ files.volumes
instruction-volumes files p (Done effect) = refl
instruction-volumes files p (Calls code regs) = refl
instruction-volumes files p (Aborts status) = refl

delivery-volumes : (files : Files) (p : ℕ) (result : Result Processes ℕ) → (files_after_delivery files p result).volumes ≡ files.volumes
delivery-volumes files p (Ok t) = refl
delivery-volumes files p (Err status) = refl

acts-keep : (act : Act) (s : State) (p : ℕ) (end : EventEnd) (t : State) → Acts act s p end t → VolumesKeepEnds s t
acts-keep executes s p end t (ending, is) =
    keeps-same s t (ap volumes_in is ∙ instruction-volumes s.files p (next_instruction s.processes p))
acts-keep (delivers signal) s p end t (ending, is) =
    keeps-same s t (ap volumes_in is ∙ delivery-volumes s.files p (delivered (before_delivery s p) p signal))
acts-keep (attempts code) s p end t (result, rest, (now, is_now, serves), ending, is) =
    by-volumes s t (subst (Keep (volumes_in s)) (sym (ap volumes_in is)) (serves-keeps s now p result rest (service_of code) serves))

pub event-keeps-ends : (s t : State) (end : EventEnd) → Event s end t → VolumesKeepEnds s t
event-keeps-ends s t end (p, chosen, lives, acts) = acts-keep (act_of s.processes p) s p end t acts

-- ---- ticks and choices

pub tick-keeps-ends : (s t : State) → Tick s t → VolumesKeepEnds s t
tick-keeps-ends s t (desk, arrives, is) = keeps-same s t (ap volumes_in is)

pub choice-keeps-ends : (s t : State) → Choose s t → VolumesKeepEnds s t
choice-keeps-ends s t is = keeps-same s t (ap volumes_in is)

-- ---- slices

steps-keep : (left : ℕ) (s : State) (states : List State) (t : State) → SliceEvents left s states t → VolumesKeepEnds s t
steps-keep left s [] t (over, is) = keeps-same s t (ap volumes_in is)
steps-keep left s (m ∷ ms) t (some, end, event, steps) =
    keeps-then s m t (event-keeps-ends s m end event) (rest (is_going end) (steps-keep (left - cost s) m ms t) steps)
  where
    rest : (going : Bool) → (SliceEvents (left - cost s) m ms t → VolumesKeepEnds m t) → MatchBool going (SliceEvents (left - cost s) m ms t) ((ms ≡ []) × (t ≡ m)) → VolumesKeepEnds m t
    rest true keep steps = keep steps
    rest false keep (over, is) = keeps-same m t (ap volumes_in is)

first-keep : (left : ℕ) (s : State) (states : List State) (t : State) → FirstSteps left s states t → VolumesKeepEnds s t
first-keep left s [] t (some, is) = keeps-same s t (ap volumes_in is)
first-keep left s (m ∷ ms) t (some, event, steps) =
    keeps-then s m t (event-keeps-ends s m Ran event) (first-keep (left - cost s) m ms t steps)

chosen-keep : (n : ℕ) (s : State) (states : List State) (end : SliceEnd) (t : State) (who : Option ℕ)
    → MatchOption who ((end ≡ Idle) × (states ≡ []) × (t ≡ s)) (λ p. (end ≡ SliceRan) × SliceEvents n s states t)
    → VolumesKeepEnds s t
chosen-keep n s states end t None (idle, none, is) = keeps-same s t (ap volumes_in is)
chosen-keep n s states end t (Some p) (ran, steps) = steps-keep n s states t steps

begins-keep : (s ticked chosen t : State) → Tick s ticked → Choose ticked chosen → VolumesKeepEnds chosen t → VolumesKeepEnds s t
begins-keep s ticked chosen t ticks chooses later =
    keeps-then s ticked t (tick-keeps-ends s ticked ticks)
    (keeps-then ticked chosen t (choice-keeps-ends ticked chosen chooses) later)

pub slice-keeps-ends : (n : ℕ) (s t : State) (states : List State) (end : SliceEnd) → Slice n s states end t → VolumesKeepEnds s t
slice-keeps-ends n s t states end (ticked, chosen, ticks, chooses, rest) =
    begins-keep s ticked chosen t ticks chooses (chosen-keep n chosen states end t chosen.chosen rest)

pub first-events-keep-ends : (n : ℕ) (s t : State) (states : List State) → BeginsSlice n s states t → VolumesKeepEnds s t
first-events-keep-ends n s t states (ticked, chosen, ticks, chooses, steps) =
    begins-keep s ticked chosen t ticks chooses (first-keep n chosen states t steps)

-- ---- runs

pub run-keeps-ends : (slices written : List ℕ) (s t : State) (states : List State) → Run slices s states written t → VolumesKeepEnds s t
run-keeps-ends [] written s t states (none, nothing, is) = keeps-same s t (ap volumes_in is)
run-keeps-ends (n ∷ ns) written s t states run =
    by_living (has_living s) (λ rest m later after. run-keeps-ends ns rest m t later after) run
  where
    by_living : (living : Bool) → ((rest : List ℕ) (m : State) (later : List State) → Run ns m later rest t
        → VolumesKeepEnds m t) → MatchBool living ((end : SliceEnd) × (m : State) × (first later : List State) ×
        (rest : List ℕ) × Slice n s first end m × (states ≡ first ++ later) × (written ≡ console_bytes m.terms ++
        rest) × Run ns (record m { terms = terminals_emptied m.terms }) later rest t) ((states ≡ []) × (written ≡ [])
        × (t ≡ s)) → VolumesKeepEnds s t
    by_living false others (none, nothing, is) = keeps-same s t (ap volumes_in is)
    by_living true others (end, m, first, later, rest, slice, all, bytes, after) =
        let now : State = record m { terms = terminals_emptied m.terms } in
        keeps-then s m t (slice-keeps-ends n s m first end slice)
        (keeps-then m now t (keeps-same m now refl) (others rest now later after))
