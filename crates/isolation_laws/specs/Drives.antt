-- The drive that a process reaches in an attempt of its call (System Programmer's Manual, "I/O service requests",
-- F$Load, F$Fork and F$Chain).
use Rattle.std.specs.Prelude.{◌≡◌, ℕ, Option, Some, None, length}
use Rattle.std.specs.Option.{option_map_or}
use Rattle.os9_base.specs.declared.registers.TimePacket.{TimePacket}
use Rattle.proc_model.specs.Ready.{attempts, act_of}
use Rattle.proc_model.specs.declared.proc_call.ProcCall.TheVariants as Call
use Rattle.file_rules.specs.Attempts.{asker_of}
use Rattle.file_rules.specs.Program.{named_program, tests_program}
use Rattle.file_rules.specs.ProgramFile.{program_file}
use Rattle.file_rules.specs.Step.{drive_of}
use Rattle.time_rules.specs.Clock.{IsNow}
use Rattle.file_laws.specs.Touch.{drive_reached}
use Rattle.machine_model.specs.Services.{Service, loads, no_call, on_paths, on_processes, on_time, service_of}
use Rattle.machine_model.specs.State.{State}

-- a process attempts the call of a code that asks for this
abbrev pub AttemptsService : State → ℕ → Service → Type 0
AttemptsService s p service = (code : ℕ) × (act_of s.processes p ≡ attempts code) × (service_of code ≡ service)

-- the drive that F$Fork and F$Chain reach: none if the bytes at X are the name of an entered module, else the one to
-- which they lead as a path list
abbrev pub drive_of_program : State → ℕ → TimePacket → Option ℕ
drive_of_program s p now =
    option_map_or (λ entered. None) (named_program s.processes p)
    (drive_of (program_file (asker_of s.processes p now) s.files (length s.terms) (tests_program s.processes p)))

-- the drive that an attempt of this service reaches, if any
abbrev pub drive_by : Service → State → ℕ → TimePacket → Option ℕ
drive_by loads s p now = drive_of (program_file (asker_of s.processes p now) s.files (length s.terms) (λ step. step))
drive_by (on_processes Call.Fork) s p now = drive_of_program s p now
drive_by (on_processes Call.Chain) s p now = drive_of_program s p now
drive_by (on_processes call) s p now = None
drive_by (on_time call) s p now = None
drive_by (on_paths call) s p now = drive_reached call (asker_of s.processes p now) s.files (length s.terms)
drive_by no_call s p now = None

-- a process attempts a call, at the current time, and reaches this drive
pub record ReachesDrive (s : State) (p : ℕ) (service : Service) (drive : ℕ) : Type 0 where
  pub attempted : AttemptsService s p service
  pub now : TimePacket
  pub is_now : IsNow s.clock s.processes.tick now
  pub reached : drive_by service s p now ≡ Some drive
