-- What an instruction, a call on processes and modules or the delivery of a signal leaves unchanged of what is not its
-- own.
use Rattle.std.specs.Prelude.{◌≡◌, ◌≢◌, ℕ}
use Rattle.proc_model.specs.Records.{record_of}
use Rattle.proc_model.specs.Processes.{Processes}
use Rattle.machine_model.specs.declared.ends.EventEnd.{EventEnd}
use Rattle.call_laws.specs.NewObjects.{HoldNothingElse}
use Rattle.call_laws.specs.Objects.{KeepsSizes, KeepsObjects, KeepsToItself}
use Rattle.call_laws.specs.Others.{ComesOf, turns_of_others}
use Rattle.call_laws.specs.Links.{ChangesLinks}
use Rattle.call_laws.specs.Modules.{FollowsLinkRules}

-- an event of a process with this end leaves unchanged what is not its own
pub record LeavesOtherProcesses (m : Processes) (p : ℕ) (end : EventEnd) (n : Processes) : Type 0 where
  pub sizes : KeepsSizes m.memory n.memory
  pub objects : KeepsObjects m.memory p n.memory
  pub new_objects : HoldNothingElse m p n.memory
  pub map : KeepsToItself m.memory p n.memory
  pub others : (q : ℕ) → q ≢ p → ComesOf m p end n q (record_of m.records q) (record_of n.records q)
  pub turns : turns_of_others m p n.order ≡ turns_of_others m p m.order
  pub modules : FollowsLinkRules m.memory.modules n.memory.modules  -- the change of each
  pub links : ChangesLinks m p end n.memory  -- which of their links change
