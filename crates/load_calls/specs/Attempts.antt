-- What attempts of F$Load, F$Fork and F$Chain that may read a file of modules do to the kernel's processes and its
-- files (System Programmer's Manual, F$Load, F$Fork and F$Chain).
use Rattle.std.specs.Prelude.{◌≡◌, ℕ}
use Rattle.std.specs.Option.{option_map_or}
use Rattle.os9_base.specs.declared.call.CallEnd.{CallEnd}
use Rattle.os9_base.specs.declared.registers.TimePacket.{TimePacket}
use Rattle.proc_model.specs.CallResult.{CallResult}
use Rattle.proc_model.specs.Processes.{Processes}
use Rattle.proc_state.specs.Tie.{ReturnsCallEnd}
use Rattle.file_drives.specs.Drives.{media_of}
use Rattle.file_rules.specs.Attempts.{asker_of}
use Rattle.file_rules.specs.Files.{Asker, Files}
use Rattle.file_rules.specs.Load.{LoadAttempts}
use Rattle.file_rules.specs.Program.{ChainAttempts, ForkAttempts, named_program, tests_program}
use Rattle.file_rules.specs.ProgramFile.{ProgramFile, program_file}
use Rattle.file_rules.specs.Step.{Step}
use Rattle.file_rules.specs.Route.{list_of}
use Rattle.file_state.specs.Attempt.{OnEach, MachineOnDrives}
use Rattle.file_state.specs.Counted.{CalledAtMost, calls_of}
use Rattle.file_state.specs.Tie.{RepresentsFiles}
use Rattle.load_calls.specs.Calls.{list_calls}

-- an attempt of a process had this end, called the drives at most this number of times, and left all media unchanged
pub record AttemptsBy (attempt : CallResult → Files → Type 0) (m : Processes) (p : ℕ) (end : CallEnd) (most : ℕ)
    (before after : MachineOnDrives) : Type 0 where
  pub result : CallResult
  pub left : Files
  pub attempted : attempt result left
  pub comes : ReturnsCallEnd m p result end after.processes
  pub stands : RepresentsFiles after.files after.views left
  pub calls : CalledAtMost most before.views after.views
  pub media_kept : media_of after.views ≡ media_of before.views

-- the greatest number of drive calls for the file of the path list at X, for a call with this test
abbrev pub file_calls : Asker → Files → ℕ → (Step ProgramFile → Step ProgramFile) → ℕ
file_calls asker files terms test =
    calls_of (program_file asker files terms test) (list_calls asker files terms (list_of asker))

-- the same for F$Fork and F$Chain: 0 if an entered module is named
abbrev pub start_calls : Processes → ℕ → TimePacket → Files → ℕ → ℕ
start_calls m p now files terms =
    option_map_or (λ named. 0) (named_program m p) (file_calls (asker_of m p now) files terms (tests_program m p))

-- attempts of F$Load, F$Fork and F$Chain, at a time, on a machine with this number of terminals
abbrev pub LoadAttemptedFrom : TimePacket → ℕ → CallEnd → ℕ → MachineOnDrives → MachineOnDrives → Type 0
LoadAttemptedFrom now p end terms before after =
    OnEach before
    (λ m was. AttemptsBy (LoadAttempts m (asker_of m p now) was terms p) m p end
    (file_calls (asker_of m p now) was terms (λ step. step)) before after)

abbrev pub ForksFrom : TimePacket → ℕ → CallEnd → ℕ → MachineOnDrives → MachineOnDrives → Type 0
ForksFrom now p end terms before after =
    OnEach before
    (λ m was. AttemptsBy (ForkAttempts m (asker_of m p now) was terms p) m p end (start_calls m p now was terms)
    before after)

abbrev pub ChainsFrom : TimePacket → ℕ → CallEnd → ℕ → MachineOnDrives → MachineOnDrives → Type 0
ChainsFrom now p end terms before after =
    OnEach before
    (λ m was. AttemptsBy (ChainAttempts m (asker_of m p now) was terms p) m p end (start_calls m p now was terms)
    before after)
