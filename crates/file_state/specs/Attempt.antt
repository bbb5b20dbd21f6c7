-- What an attempt of a call on paths, files and directories does to the kernel's processes and its files.
use Rattle.std.specs.Prelude.{ℕ, None, List}
use Rattle.os9_base.specs.declared.call.CallEnd.{CallEnd}
use Rattle.os9_base.specs.declared.call.CallEnd.TheVariants.{Wait}
use Rattle.os9_base.specs.declared.registers.TimePacket.{TimePacket}
use Rattle.os9_outer.specs.TerminalState.{TerminalState}
use Rattle.proc_model.specs.CallResult.{CallResult}
use Rattle.proc_model.specs.Processes.{Processes}
use Rattle.lock_model.specs.Records.{Records, with_waiting}
use Rattle.proc_state.specs.Tie.{ReturnsCallEnd, RepresentsProcesses}
use Rattle.proc_state.specs.declared.state.ProcState.{ProcState}
use Rattle.file_rules.specs.Attempts.{FileAttempts}
use Rattle.file_rules.specs.Files.{Files, with_records}
use Rattle.file_rules.specs.declared.path_call.PathCall.{PathCall}
use Rattle.file_drives.specs.Drives.{DriveView}
use Rattle.file_laws.specs.Kinds.{AreKinds}
use Rattle.file_state.specs.Tie.{RepresentsFiles}
use Rattle.file_state.specs.declared.state.FileState.{FileState}

-- the kernel's files without a request of a process
abbrev pub without_request : ℕ → FileState → FileState
without_request p state = record state { records = with_waiting state.records p None }

-- and those of the machine
abbrev pub unrequested : ℕ → Files → Files
unrequested p files = with_records files (with_waiting files.records p None)

-- and after an attempt that ends so, which keeps its request only if it waits
abbrev pub records_settled : ℕ → CallEnd → Records → Records
records_settled p Wait records = records
records_settled p end records = with_waiting records p None

abbrev pub settled : ℕ → CallEnd → FileState → FileState
settled p end state = record state { records = records_settled p end state.records }

-- an attempt of a call by a process, at a time: how it ends, and the processes, the files and the terminals then; its
-- process is not told yet, and a request of it may be kept yet
pub record FileAttempted (call : PathCall) (m : Processes) (files : Files) (now : TimePacket) (p : ℕ) (end : CallEnd)
    (processes : ProcState) (new : FileState) (views : List DriveView) (before after : List TerminalState)
    : Type 0 where
  pub result : CallResult
  pub left : Files
  pub attempt : FileAttempts call m files now p result left before after
  pub comes : ReturnsCallEnd m p result end processes
  pub stands : RepresentsFiles (settled p end new) views left

-- ---- from any state that the kernel's state represents

-- the kernel's processes, its files, and the drives
pub record MachineOnDrives : Type 0 where
  pub processes : ProcState
  pub files : FileState
  pub views : List DriveView

-- a fact of each state of the machine that it represents, in which the targets of paths and directories exist
abbrev pub OnEach : MachineOnDrives → (Processes → Files → Type 0) → Type 0
OnEach before fact =
    (m : Processes) (was : Files) → RepresentsProcesses before.processes m
    → RepresentsFiles before.files before.views was
    → AreKinds was
    → fact m was

-- an attempt of a call by a process, at a time, from each such state
abbrev pub FileAttemptedFrom : PathCall → TimePacket → ℕ → CallEnd → List TerminalState → List TerminalState
    → MachineOnDrives
    → MachineOnDrives → Type 0
FileAttemptedFrom call now p end terms terms_after before after =
    OnEach before
    (λ m was. FileAttempted call m was now p end after.processes after.files after.views terms terms_after)
