-- Calls that are refused for a deadlock, or for a lock (Level Two manual, RBF record locking).
use Rattle.std.specs.Prelude.{◌≡◌, ℕ, Some}
use Rattle.os9_base.specs.declared.registers.TimePacket.{TimePacket}
use Rattle.proc_model.specs.Ready.{attempts, act_of}
use Rattle.file_rules.specs.Files.{OneFailed}
use Rattle.file_rules.specs.declared.path_call.PathCall.{PathCall}
use Rattle.time_rules.specs.Clock.{IsNow}
use Rattle.file_laws.specs.Claims.{ClosesCycle, IsLockedOut, MadePathCall}
use Rattle.machine_model.specs.Services.{on_paths, service_of}
use Rattle.machine_model.specs.State.{State}
use Rattle.call_laws.specs.RefusedEvents.{IsAttemptRefused, made_by}

-- the chosen process attempts a call on paths, and this is so of the attempt
pub record AttemptsSo (IsSo : MadePathCall → Type 0) (s : State) : Type 0 where
  pub process : ℕ
  pub chosen : s.chosen ≡ Some process
  pub code : ℕ
  pub attempted : act_of s.processes process ≡ attempts code
  pub call : PathCall
  pub serves : service_of code ≡ on_paths call
  pub now : TimePacket
  pub is_now : IsNow s.clock s.processes.tick now
  pub so : IsSo (made_by s process now call)

-- it is the first attempt of its call, whose request would wait; and that would close a cycle of waits
abbrev pub ClosesCycleIn : State → Type 0
ClosesCycleIn s = AttemptsSo ClosesCycle s

-- a lock of another process conflicts with its request, which does not wait
abbrev pub IsLockedOutIn : State → Type 0
IsLockedOutIn s = AttemptsSo IsLockedOut s

-- the call of this code is answered the fault of a drive, which has failed, and no other one
pub record IsFaulted (s : State) (code : ℕ) (t : State) : Type 0 where
  pub drive : ℕ
  pub number : ℕ
  pub failed : OneFailed drive number s.files.drives t.files.drives
  pub refused : IsAttemptRefused s code number t

-- a call is attempted and answered so
abbrev pub EndsInFault : State → State → Type 0
EndsInFault s t = (code : ℕ) × IsFaulted s code t
