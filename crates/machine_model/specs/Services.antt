-- What the code of a call asks for, and the outcome of an attempt of it (System Programmer's Manual, "System calls").
use Rattle.std.specs.Prelude.{◌≡◌, ℕ, ◌==◌, length, if◌then◌else◌}
use Rattle.std.specs.Option.{option_map_or}
use Rattle.os9_base.specs.declared.calls.TheConstants.{F_LOAD}
use Rattle.os9_base.specs.declared.errors.TheConstants.{E_UNKSVC}
use Rattle.os9_base.specs.declared.registers.TimePacket.{TimePacket}
use Rattle.proc_model.specs.Attempts.{attempted}
use Rattle.proc_model.specs.CallResult.{CallResult, done, refused, waits, ends}
use Rattle.proc_model.specs.Codes.{call_of}
use Rattle.proc_model.specs.Processes.{regs_at}
use Rattle.proc_model.specs.declared.proc_call.ProcCall.{ProcCall}
use Rattle.proc_model.specs.declared.proc_call.ProcCall.TheVariants as Call
use Rattle.file_rules.specs.Attempts.{FileAttempts, asker_of}
use Rattle.file_rules.specs.Codes.{path_call_of}
use Rattle.file_rules.specs.Files.{Files}
use Rattle.file_rules.specs.Load.{LoadAttempts}
use Rattle.file_rules.specs.Processes.{files_started, files_ended}
use Rattle.file_rules.specs.Program.{ForkAttempts, ChainAttempts}
use Rattle.file_rules.specs.declared.path_call.PathCall.{PathCall}
use Rattle.time_rules.specs.Attempts.{TimeAttempts}
use Rattle.time_rules.specs.Clock.{IsNow}
use Rattle.time_rules.specs.Codes.{time_call_of}
use Rattle.time_rules.specs.declared.clock.Clock.{Clock}
use Rattle.time_rules.specs.declared.time_call.TimeCall.{TimeCall}
use Rattle.machine_model.specs.State.{State, Rest, rest_of}

pub data Service : Type 0 where
  loads : Service  -- F$Load
  on_processes : ProcCall → Service
  on_time : TimeCall → Service
  on_paths : PathCall → Service
  no_call : Service  -- an unknown code

-- what a code asks for
abbrev pub service_of : ℕ → Service
service_of code =
    if code == F_LOAD then loads
    else option_map_or on_processes (call_of code)
    (option_map_or on_time (time_call_of code) (option_map_or on_paths (path_call_of code) no_call))

-- ---- the files after a call on processes

-- the files after a call on processes and modules with this result: what an ended process had is closed
abbrev pub files_after_call : Files → ℕ → CallResult → Files
files_after_call files p (done t) = files
files_after_call files p (refused number) = files
files_after_call files p (waits t) = files
files_after_call files p (ends status) = files_ended files p

-- the files after F$Fork: the child has its parent's standard paths and directories
abbrev pub files_after_fork : Files → ℕ → CallResult → Files
files_after_fork files p (done t) = files_started files p (regs_at t p).a
files_after_fork files p (refused number) = files
files_after_fork files p (waits t) = files
files_after_fork files p (ends status) = files

-- ---- attempts

-- the rest of a state, with these files
abbrev pub with_files : State → Files → Rest
with_files s files = record (rest_of s) { files = files }

-- an attempt of a process at a time: its result, and the rest of the state then
abbrev pub Serves : Service → State → TimePacket → ℕ → CallResult → Rest → Type 0
Serves loads s now p result rest =
    (files : Files) × LoadAttempts s.processes (asker_of s.processes p now) s.files (length s.terms) p result files
    × (rest ≡ with_files s files)
Serves (on_processes Call.Fork) s now p result rest =
    (files : Files) × ForkAttempts s.processes (asker_of s.processes p now) s.files (length s.terms) p result files
    × (rest ≡ with_files s (files_after_fork files p result))
Serves (on_processes Call.Chain) s now p result rest =
    (files : Files) × ChainAttempts s.processes (asker_of s.processes p now) s.files (length s.terms) p result files
    × (rest ≡ with_files s files)
Serves (on_processes call) s now p result rest =
    (result ≡ attempted call s.processes p) × (rest ≡ with_files s (files_after_call s.files p result))
Serves (on_time call) s now p result rest =
    (clock : Clock) × TimeAttempts call s.processes s.clock now p result clock
    × (rest ≡ record (rest_of s) { clock = clock })
Serves (on_paths call) s now p result rest =
    FileAttempts call s.processes s.files now p result rest.files s.terms rest.terms × (rest.clock ≡ s.clock)
Serves no_call s now p result rest = (result ≡ refused E_UNKSVC) × (rest ≡ rest_of s)

-- an attempt of a call by its code, at the current time
abbrev pub CallAttempted : ℕ → State → ℕ → CallResult → Rest → Type 0
CallAttempted code s p result rest =
    (now : TimePacket) × IsNow s.clock s.processes.tick now × Serves (service_of code) s now p result rest
