-- What attempts of the calls on paths, files and directories require, and what they do (System Programmer's Manual,
-- "I/O service requests"; Level Two manual, "I/O system").
use Rattle.std.specs.Prelude.{◌≡◌, ◌≢◌, ◌⊎◌, ℕ, Option, Some, None, List, length}
use Rattle.os9_base.specs.declared.call.CallEnd.{CallEnd}
use Rattle.os9_base.specs.declared.call.CallEnd.TheVariants.{NoMemory}
use Rattle.os9_base.specs.declared.registers.TimePacket.{TimePacket}
use Rattle.os9_outer.specs.TerminalState.{TerminalState}
use Rattle.proc_model.specs.Processes.{Processes}
use Rattle.io_model.specs.Attempts.{step_of}
use Rattle.io_model.specs.Io.{Io, pending_at}
use Rattle.io_model.specs.declared.io_call.IoCall.{IoCall}
use Rattle.call_dispatch.specs.Staying.{MayAttemptIo as MayAttemptOnDevice}
use Rattle.proc_state.specs.Tie.{RepresentsProcesses}
use Rattle.proc_state.specs.declared.state.ProcState.{ProcState}
use Rattle.file_rules.specs.Attempts.{asker_of, file_step}
use Rattle.file_rules.specs.Files.{Files}
use Rattle.file_rules.specs.Memory.{LacksMemory}
use Rattle.file_rules.specs.Step.{as_io, deed_of}
use Rattle.file_rules.specs.declared.path_call.PathCall.{PathCall}
use Rattle.file_state.specs.Asking.{KeepsRequest}
use Rattle.file_state.specs.Attempt.{OnEach, MachineOnDrives}
use Rattle.file_state.specs.Counted.{AttemptsIn}
use Rattle.file_state.specs.Lacks.{LacksItsEntry, TriesWithin}
use Rattle.file_state.specs.Tie.{RepresentsFiles}
use Rattle.file_state.specs.declared.state.FileState.{FileState}
use Rattle.file_laws.specs.Devices.{device_call}
use Rattle.call_dispatch.specs.Bounds.{attempt_calls}
use Rattle.call_dispatch.specs.Dates.{IsTimeFor}

-- ---- terminals and pipes

-- the call of a process does what this device call does, on a machine with this number of drives and these terminals
abbrev pub IsSameAsDeviceCall : PathCall → IoCall → Processes → Files → TimePacket → ℕ → ℕ → List TerminalState → Type 0
IsSameAsDeviceCall call device m files now p drives terms =
    deed_of (file_step call (asker_of m p now) files (length terms)) files
    ≡ as_io (step_of device m p files.io drives terms)

-- ---- attempts

-- a process may attempt the call, on a machine with this number of terminals: its pending call, if any, is this one
abbrev pub MayAttemptAs : Option IoCall → ProcState → Io → ℕ → ℕ → Type 0
MayAttemptAs None processes io p terms = pending_at io p ≡ None
MayAttemptAs (Some device) processes io p terms = MayAttemptOnDevice device processes io p terms

-- and if it waits in a request, that is one of its call
pub record MayAttemptPathCall (call : PathCall) (processes : ProcState) (state : FileState) (p terms : ℕ) : Type 0 where
  pub attempt : MayAttemptAs (device_call call) processes state.io p terms
  pub kept : KeepsRequest state.io state.records.locks p

-- memory was wanting for a byte that an attempt puts on a terminal: these are the terminals then, and no drive was
-- called
pub record LacksByte (call : PathCall) (m : Processes) (files : Files) (now : TimePacket) (p : ℕ)
    (terms terms_after : List TerminalState) (before after : MachineOnDrives) : Type 0 where
  pub lacks : LacksMemory call m files now p terms terms_after
  pub views : after.views ≡ before.views

-- a process tries a call, at a time: its attempt ends with this end, and leaves these terminals and this state of the
-- kernel; or memory is lacking
pub record TriesPathCall (call : PathCall) (m : Processes) (files : Files) (now : TimePacket) (p : ℕ) (end : CallEnd)
    (terms terms_after : List TerminalState) (before after : MachineOnDrives) : Type 0 where
  pub attempted : end ≢ NoMemory
      → AttemptsIn (attempt_calls call (asker_of m p now) files (length terms)) call m files now p end terms terms_after
      before after
  pub memory : end ≡ NoMemory → LacksByte call m files now p terms terms_after before after
      ⊎ LacksItsEntry (attempt_calls call (asker_of m p now) files (length terms)) call m files now p end terms
      terms_after before after

-- ---- from any state that the kernel's state represents

-- a process tries a call, at a time, in each such state in which the targets of paths and directories exist
abbrev pub TriesPathCallFrom : PathCall → TimePacket → ℕ → CallEnd → List TerminalState → List TerminalState
    → MachineOnDrives
    → MachineOnDrives → Type 0
TriesPathCallFrom call now p end terms terms_after before after =
    OnEach before (λ m was. TriesPathCall call m was now p end terms terms_after before after)

-- a process tries a call in each such state, at each right time
abbrev pub TriesAt : PathCall → TimePacket → ℕ → CallEnd → List TerminalState → List TerminalState → MachineOnDrives
    → MachineOnDrives → Type 0
TriesAt call now p end terms terms_after before after =
    (time : TimePacket) → IsTimeFor call now time → TriesPathCallFrom call time p end terms terms_after before after

-- a process tries a call on a file in each such state, at each right time, and leaves all terminals unchanged
abbrev pub TriesFileAt : PathCall → TimePacket → ℕ → CallEnd → MachineOnDrives → MachineOnDrives → Type 0
TriesFileAt call now p end before after =
    (time : TimePacket) (terms : List TerminalState) → IsTimeFor call now time
    → TriesWithin (attempt_calls call) call time p end terms terms before after

-- a process tries each call that is this device call, at any time, on a machine with this number of drives
abbrev pub TriesOnDevice : IoCall → ℕ → ℕ → CallEnd → List TerminalState → List TerminalState → MachineOnDrives
    → MachineOnDrives
    → Type 0
TriesOnDevice device p drives end terms terms_after before after =
    (call : PathCall) (m : Processes) (was : Files) (now : TimePacket) → RepresentsProcesses before.processes m
    → RepresentsFiles before.files before.views was → IsSameAsDeviceCall call device m was now p drives terms
    → TriesPathCall call m was now p end terms terms_after before after
