-- States that a machine may reach, and machines that never have a choice.
use Rattle.std.specs.Prelude.{◌≡◌}
use Rattle.machine_model.specs.Console.{terminals_emptied}
use Rattle.machine_model.specs.declared.ends.EventEnd.{EventEnd}
use Rattle.machine_model.specs.Event.{Event}
use Rattle.machine_model.specs.Run.{Choose, Tick}
use Rattle.machine_model.specs.State.{State}
use Rattle.run_laws.specs.Faults.{MayChoose}

-- a state is reached from another one, step by step
pub data ReachesState : State → State → Type 0 where
  here : {s : State} → ReachesState s s
  by_event : {s next t : State} (end : EventEnd) → Event s end next → ReachesState next t → ReachesState s t
  by_tick : {s next t : State} → Tick s next → ReachesState next t → ReachesState s t
  by_choice : {s next t : State} → Choose s next → ReachesState next t → ReachesState s t
  by_emptying : {s t : State} → ReachesState (record s { terms = terminals_emptied s.terms }) t → ReachesState s t

-- in no reached state the chosen process attempts a call that takes clusters
abbrev pub NeverChooses : State → Type 0
NeverChooses s = (m : State) → ReachesState s m → MayChoose m → ⊥
