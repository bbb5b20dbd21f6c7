-- What is left by an event that is a refused attempt of a call, and why it is refused.
use Rattle.std.specs.Prelude.{◌≡◌, ◌≢◌, ◌⊎◌, ℕ, true, false, IsSome, Some, None, length}
use Rattle.os9_base.specs.declared.errors.TheConstants.{E_EOF, E_UNKSVC, E_WRITE}
use Rattle.os9_base.specs.declared.registers.TimePacket.{TimePacket}
use Rattle.proc_model.specs.Records.{IsLiving}
use Rattle.proc_model.specs.Attempts.{after_attempt, attempted}
use Rattle.proc_model.specs.CallResult.{refused}
use Rattle.proc_model.specs.Processes.{regs_at}
use Rattle.proc_model.specs.Ready.{attempts, act_of}
use Rattle.proc_model.specs.declared.proc_call.ProcCall.{ProcCall}
use Rattle.proc_model.specs.declared.proc_call.ProcCall.TheVariants as Call
use Rattle.io_model.specs.Attempts.{caller_of}
use Rattle.io_model.specs.Io.{with_call}
use Rattle.io_model.specs.declared.io_call.IoCall.{IoCall}
use Rattle.lock_model.specs.Records.{with_waiting}
use Rattle.rbf_model.specs.Volume.{DiskVolume}
use Rattle.file_rules.specs.Attempts.{asker_of, file_step}
use Rattle.file_rules.specs.Files.{KeepsDriveFaults, OneFailed, volume_at, with_volume}
use Rattle.file_rules.specs.Program.{named_program, tests_program}
use Rattle.file_rules.specs.ProgramFile.{ProgramFile, program_file}
use Rattle.file_rules.specs.Step.{FileStep, MayBeLeft, Step, deed_of, drive_of}
use Rattle.file_rules.specs.declared.path_call.PathCall.{PathCall}
use Rattle.time_rules.specs.Clock.{IsNow}
use Rattle.time_rules.specs.declared.time_call.TimeCall.{TimeCall}
use Rattle.call_laws.specs.Refusals.{ChangesNothing, LeavesProcesses, LeftAtEnd, LeftAtFault}
use Rattle.file_laws.specs.Causes.{FileCause}
use Rattle.file_laws.specs.Claims.{MadePathCall}
use Rattle.file_laws.specs.Devices.{IsOnNoFile, LocksStay, device_call}
use Rattle.file_laws.specs.LoadCauses.{ChainCause, ForkCause, LoadCause}
use Rattle.file_laws.specs.Touch.{FaultAnswers, NoVolumeChanges, may_change_volume}
use Rattle.machine_model.specs.Services.{CallAttempted, loads, no_call, on_paths, on_processes, on_time, service_of}
use Rattle.machine_model.specs.State.{State, rest_of, with_rest}
use Rattle.call_laws.specs.CallCauses.{DeviceCause, ProcCause, TimeCause, starts_program}

-- the chosen process attempts the call of this code, which is refused with this number, and this is the state then
pub record IsAttemptRefused (s : State) (code number : ℕ) (t : State) : Type 0 where
  pub process : ℕ
  pub chosen : s.chosen ≡ Some process
  pub lives : IsLiving s.processes.records process
  pub attempted : act_of s.processes process ≡ attempts code
  pub attempt : CallAttempted code s process (refused number) (rest_of t)
  pub now : t ≡ with_rest s (after_attempt s.processes process (refused number)) (rest_of t)

-- ---- a call on a terminal or a pipe

-- what is left of terminals, pipes and paths
pub data LeftOnDevice (s : State) (p : ℕ) (call : IoCall) (number : ℕ) (t : State) : Type 0 where
  -- everything but the pending call, which is removed
  but_the_call : DeviceCause call (caller_of s.processes p) s.files (length s.terms) number
      → ChangesNothing p s.files.io t.files.io s.terms t.terms → LeftOnDevice s p call number t
  end_of_file : number ≡ E_EOF → LeftAtEnd call (caller_of s.processes p) s.files.io t.files.io s.terms t.terms
      → LeftOnDevice s p call number t
  write_error : number ≡ E_WRITE → LeftAtFault call (caller_of s.processes p) s.files.io t.files.io s.terms t.terms
      → LeftOnDevice s p call number t

-- the call is one on terminals and pipes, and not on a file: everything else is unchanged, and no drive fails
pub record RefusedOnDevice (s : State) (p : ℕ) (now : TimePacket) (call : PathCall) (number : ℕ) (t : State)
    : Type 0 where
  pub device : IoCall
  pub device_is : device_call call ≡ Some device
  pub on : IsOnNoFile call (asker_of s.processes p now) s.files (length s.terms)
  pub left : LeftOnDevice s p device number t
  pub locks : LocksStay call s.files p (regs_at s.processes p).a t.files.records
  pub directories : t.files.directories ≡ s.files.directories
  pub volumes : t.files.volumes ≡ s.files.volumes
  pub none_failed : KeepsDriveFaults s.files.drives t.files.drives
  pub clock : t.clock ≡ s.clock

-- ---- a call on a file or a directory

-- the call that is made
abbrev pub made_by : State → ℕ → TimePacket → PathCall → MadePathCall
made_by s p now call = record {
  call = call;
  asker = asker_of s.processes p now;
  files = s.files;
  terms = length s.terms;
}

-- what an attempt of it does
abbrev pub step_of : State → ℕ → TimePacket → PathCall → FileStep
step_of s p now call = file_step call (asker_of s.processes p now) s.files (length s.terms)

-- the drive that the call reached has failed, and no other one, and the number is that of its fault. What is left of
-- its volume is what the definition of the call lets a fault leave; the other volumes are unchanged
pub record FailsOnDrive (s : State) (p : ℕ) (now : TimePacket) (call : PathCall) (number : ℕ) (t : State)
    : Type 0 where
  pub drive : ℕ
  pub reaches : drive_of (step_of s p now call) ≡ Some drive
  pub failed : OneFailed drive number s.files.drives t.files.drives
  pub old : DiskVolume
  pub was : volume_at s.files drive ≡ Some old
  pub left : DiskVolume
  pub may_be : MayBeLeft (deed_of (step_of s p now call) s.files) (asker_of s.processes p now) old left
  pub volumes : t.files.volumes ≡ (with_volume s.files drive left).volumes
  pub mounted : volume_at t.files drive ≡ Some left
  pub others : (other : ℕ) → other ≢ drive → volume_at t.files other ≡ volume_at s.files other

-- the call is on a file or a directory, or on nothing: everything is unchanged, record locks and their history too, but
-- a pending call and its request, which are removed. The volumes are unchanged, and the number has its cause;
-- or the drive that it reached has failed. A call that changes no volume leaves them unchanged even then
pub record RefusedOnFile (s : State) (p : ℕ) (now : TimePacket) (call : PathCall) (number : ℕ) (t : State)
    : Type 0 where
  pub io : t.files.io ≡ with_call s.files.io p None
  pub records : t.files.records ≡ with_waiting s.files.records p None
  pub directories : t.files.directories ≡ s.files.directories
  pub terminals : t.terms ≡ s.terms
  pub clock : t.clock ≡ s.clock
  pub still : may_change_volume call ≡ false → t.files.volumes ≡ s.files.volumes
  pub why : FailsOnDrive s p now call number t
      ⊎ NoVolumeChanges s.files t.files × FileCause (made_by s p now call) number

-- ---- a load

-- a file of modules was asked for, and read or not: everything is unchanged but what the reached drive counts. If that
-- drive has failed, the number is that of the fault; else it has its cause
pub record RefusedLoad (s : State) (p : ℕ) (now : TimePacket) (test : Step ProgramFile → Step ProgramFile)
    (Cause : Type 0) (number : ℕ) (t : State) : Type 0 where
  pub io : t.files.io ≡ s.files.io
  pub directories : t.files.directories ≡ s.files.directories
  pub volumes : t.files.volumes ≡ s.files.volumes
  pub records : t.files.records ≡ s.files.records
  pub terminals : t.terms ≡ s.terms
  pub clock : t.clock ≡ s.clock
  pub why : FaultAnswers (drive_of (program_file (asker_of s.processes p now) s.files (length s.terms) test)) s.files
      (refused number) t.files
      ⊎ KeepsDriveFaults s.files.drives t.files.drives × Cause

-- ---- any other call

-- what a call leaves in addition to memory and the processes, at the current time, and why it is refused
pub data LeavesRest (s : State) (p : ℕ) (now : TimePacket) (code number : ℕ) (t : State) : Type 0 where
  -- a call on processes and modules, also F$Fork and F$Chain of an entered module: all
  of_processes : (call : ProcCall) → service_of code ≡ on_processes call
      → (starts_program call ≡ true → IsSome (named_program s.processes p))
      → attempted call s.processes p ≡ refused number → ProcCause s.processes p call number → rest_of t ≡ rest_of s
      → LeavesRest s p now code number t
  of_time : (call : TimeCall) → service_of code ≡ on_time call → TimeCause s.processes p call number
      → rest_of t ≡ rest_of s → LeavesRest s p now code number t
  -- an unknown code: all
  of_no_call : service_of code ≡ no_call → number ≡ E_UNKSVC → rest_of t ≡ rest_of s → LeavesRest s p now code number t
  -- F$Load, and F$Fork and F$Chain of a file
  of_load : service_of code ≡ loads
      → RefusedLoad s p now (λ step. step)
      (LoadCause s.processes (asker_of s.processes p now) s.files (length s.terms) p number) number t
      → LeavesRest s p now code number t
  of_fork : service_of code ≡ on_processes Call.Fork → named_program s.processes p ≡ None
      → RefusedLoad s p now (tests_program s.processes p)
      (ForkCause s.processes (asker_of s.processes p now) s.files (length s.terms) p number) number t
      → LeavesRest s p now code number t
  of_chain : service_of code ≡ on_processes Call.Chain → named_program s.processes p ≡ None
      → RefusedLoad s p now (tests_program s.processes p)
      (ChainCause s.processes (asker_of s.processes p now) s.files (length s.terms) p number) number t
      → LeavesRest s p now code number t
  -- a call on paths, files and directories
  on_device : (call : PathCall) → service_of code ≡ on_paths call → RefusedOnDevice s p now call number t
      → LeavesRest s p now code number t
  on_files : (call : PathCall) → service_of code ≡ on_paths call → RefusedOnFile s p now call number t
      → LeavesRest s p now code number t

-- what it leaves of the machine
pub record LeavesMachine (s : State) (p code number : ℕ) (t : State) : Type 0 where
  pub processes : LeavesProcesses s.processes p number t.processes
  pub now : TimePacket
  pub is_now : IsNow s.clock s.processes.tick now
  pub rest : LeavesRest s p now code number t
  pub chosen : t.chosen ≡ s.chosen
