-- The file of modules that a process loads (System Programmer's Manual, F$Load, F$Fork and F$Chain).
use Rattle.std.specs.Prelude.{◌≡◌, ◌⊎◌, ℕ, None, Result, Ok, length}
use Rattle.os9_base.specs.declared.calls.TheConstants.{F_LOAD}
use Rattle.proc_model.specs.Processes.{Processes}
use Rattle.proc_model.specs.Ready.{attempts, act_of}
use Rattle.proc_model.specs.declared.proc_call.ProcCall.{ProcCall}
use Rattle.proc_model.specs.declared.proc_call.ProcCall.TheVariants as Call
use Rattle.file_rules.specs.Attempts.{asker_of}
use Rattle.file_rules.specs.Load.{Loaded, Loads}
use Rattle.file_rules.specs.Program.{named_program}
use Rattle.file_rules.specs.ProgramFile.{ProgramFile, program_file, reading_of}
use Rattle.call_laws.specs.Others.{AttemptsCall}
use Rattle.machine_model.specs.State.{State}

-- the file of modules to which the path list at X leads a process; it does not depend on the time
abbrev pub file_at_x : State → ℕ → Result ProgramFile ℕ
file_at_x s p =
    reading_of (program_file (asker_of s.processes p s.clock.from) s.files (length s.terms) (λ step. step))

-- a process starts a program of a file by this call: the bytes at X are not the name of an entered module
pub record StartsFileBy (m : Processes) (p : ℕ) (call : ProcCall) : Type 0 where
  pub attempted : AttemptsCall m p call
  pub unnamed : named_program m p ≡ None

-- a process loads a file, and has its first module then
pub record LoadsFile (s : State) (p : ℕ) (file : ProgramFile) (loaded : Loaded) : Type 0 where
  pub call : (act_of s.processes p ≡ attempts F_LOAD) ⊎ StartsFileBy s.processes p Call.Fork
      ⊎ StartsFileBy s.processes p Call.Chain
  pub found : file_at_x s p ≡ Ok file
  pub loads : Loads s.processes.memory file.bytes (Ok loaded)
