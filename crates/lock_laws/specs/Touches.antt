-- What an event is on, of what calls wait for: a terminal, a pipe or the records of a file (Level Two manual, process
-- scheduling; who is looked at again is this project's own).
use Rattle.std.specs.Prelude.{◌≡◌, ◌≢◌, ℕ, ◌<◌, true, false, Option, Some, None}
use Rattle.os9_base.specs.declared.registers.TimePacket.{TimePacket}
use Rattle.os9_sched.specs.declared.member.Cause.{Cause}
use Rattle.proc_model.specs.Records.{is_living}
use Rattle.proc_model.specs.Ready.{act_of, attempts, delivers}
use Rattle.proc_model.specs.declared.proc_call.ProcCall.TheVariants.{Fork}
use Rattle.lock_model.specs.Locks.{lock_of, request_of}
use Rattle.lock_model.specs.Waits.{is_late}
use Rattle.lock_model.specs.declared.lock.Held.{Held}
use Rattle.lock_model.specs.declared.lock.Request.{Request}
use Rattle.io_model.specs.Terminal.{reader}
use Rattle.io_model.specs.declared.path.Target.{Target}
use Rattle.io_model.specs.declared.path.Target.TheVariants.{File, Folder, Term, Pipe}
use Rattle.io_model.specs.Io.{Io, OpenPath, open_path, terminal_at}
use Rattle.io_model.specs.Waiting.{pid}
use Rattle.file_rules.specs.Attempts.{asker_of}
use Rattle.file_rules.specs.Locking.{files_may_go, wait_cause}
use Rattle.file_rules.specs.declared.path_call.PathCall.{PathCall}
use Rattle.file_laws.specs.Devices.{number_in}
use Rattle.machine_model.specs.Services.{on_paths, on_processes, service_of}
use Rattle.machine_model.specs.State.{State}

-- what calls wait for on this: a key of a terminal, bytes or room of a pipe, or a record of a file
abbrev pub cause_on : Target → Option Cause
cause_on (File drive sector) = Some (Cause.Lock drive sector)
cause_on (Folder drive sector) = None
cause_on (Term terminal) = Some (Cause.Term terminal)
cause_on (Pipe pipe) = Some (Cause.Pipe pipe)

-- a number of a process names a path on which calls wait for this
pub record NamesCause (io : Io) (p n : ℕ) (cause : Cause) : Type 0 where
  pub opened : OpenPath
  pub is : open_path io p n ≡ Some opened
  pub on : cause_on opened.desc.target ≡ Some cause

-- a process does not live any more
abbrev pub HasEnded : State → ℕ → Type 0
HasEnded t p = is_living t.processes.records p ≡ false

-- an event of a process is on this
pub data Touches (s : State) (p : ℕ) (t : State) (cause : Cause) : Type 0 where
  -- an attempt of a call on the number of a path
  by_call : (code : ℕ) (call : PathCall) (now : TimePacket) → act_of s.processes p ≡ attempts code
      → service_of code ≡ on_paths call → NamesCause s.files.io p (number_in call (asker_of s.processes p now)) cause
      → Touches s p t cause
  -- F$Fork, which gives a child the three standard paths
  by_fork : (code n : ℕ) → act_of s.processes p ≡ attempts code → service_of code ≡ on_processes Fork → n < 3
      → NamesCause s.files.io p n cause → Touches s p t cause
  -- the delivery of a signal to a process that waits for it
  by_delivery : (signal : ℕ) → act_of s.processes p ≡ delivers signal
      → wait_cause s.files.io s.files.records.locks p ≡ Some cause → Touches s p t cause
  -- the end of a process: of its paths, of its unfinished reads and of its locks
  by_path : (n : ℕ) → HasEnded t p → NamesCause s.files.io p n cause → Touches s p t cause
  by_read : (n : ℕ) → HasEnded t p → reader (terminal_at s.files.io n) ≡ Some (pid p) → cause ≡ Cause.Term n
      → Touches s p t cause
  by_lock : (path : ℕ) (lock : Held) → HasEnded t p → lock_of s.files.records.locks path ≡ Some lock
      → lock.owner.0 ≡ p → cause ≡ Cause.Lock lock.file.drive lock.file.number → Touches s p t cause

-- what a process waits for in a call on a path
abbrev pub cause_of : State → ℕ → Option Cause
cause_of s q = wait_cause s.files.io s.files.records.locks q

-- a process waits for this in a call on a path
abbrev pub HasWaitCause : State → ℕ → Cause → Type 0
HasWaitCause s q cause = cause_of s q ≡ Some cause

-- its call may go on in the present tick
abbrev pub MayGo : State → ℕ → Type 0
MayGo s q = files_may_go s.files s.processes.tick q ≡ true

-- in a tick keys arrive at a terminal
abbrev pub TerminalGainsKeys : State → State → Cause → Type 0
TerminalGainsKeys s t cause =
    (n : ℕ) × (cause ≡ Cause.Term n) × (terminal_at t.files.io n ≢ terminal_at s.files.io n)

-- and the ticks are over that a process waits for a record
abbrev pub TicksAreOver : State → ℕ → Type 0
TicksAreOver t q =
    (request : Request) × (request_of t.files.records.locks q ≡ Some request)
    × (is_late t.processes.tick request ≡ true)
