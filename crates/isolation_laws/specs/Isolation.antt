-- Isolation: an event of a process leaves unchanged what is not its own.
use Rattle.std.specs.Prelude.{◌≡◌, ◌≢◌, ℕ}
use Rattle.proc_model.specs.Records.{record_of}
use Rattle.call_laws.specs.Objects.{KeepsSizes, KeepsObjects, KeepsToItself}
use Rattle.call_laws.specs.Others.{ComesOf, turns_of_others}
use Rattle.machine_model.specs.declared.ends.EventEnd.{EventEnd}
use Rattle.isolation_laws.specs.Links.{ChangesLinksOrLoads}
use Rattle.isolation_laws.specs.Modules.{FollowsModuleRules}
use Rattle.isolation_laws.specs.NewObjects.{HoldParametersOrFile}
use Rattle.machine_model.specs.State.{State}

-- an event of a process with this end leaves unchanged what is not its own of memory and of the processes
pub record LeavesOthers (s : State) (p : ℕ) (end : EventEnd) (t : State) : Type 0 where
  pub sizes : KeepsSizes s.processes.memory t.processes.memory
  pub objects : KeepsObjects s.processes.memory p t.processes.memory
  pub new_objects : HoldParametersOrFile s p t.processes.memory
  pub map : KeepsToItself s.processes.memory p t.processes.memory
  pub others : (q : ℕ) → q ≢ p
      → ComesOf s.processes p end t.processes q (record_of s.processes.records q) (record_of t.processes.records q)
  pub turns : turns_of_others s.processes p t.processes.order ≡ turns_of_others s.processes p s.processes.order
  pub modules : FollowsModuleRules s p t.processes.memory  -- the change of each
  pub links : ChangesLinksOrLoads s p end t.processes.memory  -- which of their links change
