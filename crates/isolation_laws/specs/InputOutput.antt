-- What an event of a process leaves unchanged of the input and output of the others (Level Two manual, "I/O system";
-- System Programmer's Manual, F$Fork).
use Rattle.std.specs.Prelude.{◌≡◌, ◌≢◌, ◌⊎◌, ℕ, true, Option, Some, List}
use Rattle.os9_base.specs.Count.{Rose}
use Rattle.os9_outer.specs.TerminalState.{ChangesOneTerminal}
use Rattle.proc_model.specs.Records.{IsLiving, free_process}
use Rattle.proc_model.specs.Ready.{attempts, act_of}
use Rattle.proc_model.specs.declared.proc_call.ProcCall.TheVariants as Call
use Rattle.io_model.specs.Path.{numbers_of, inherited_numbers}
use Rattle.io_model.specs.Terminal.{reader, used_by, without_reading}
use Rattle.io_model.specs.declared.path.SysPath.{SysPath}
use Rattle.io_model.specs.Codes.{direction_of}
use Rattle.io_model.specs.Io.{OpenPath, terminal_at, pending_at, open_path}
use Rattle.io_model.specs.Waiting.{pid}
use Rattle.io_model.specs.declared.io_call.Direction.TheVariants.{Writing}
use Rattle.file_rules.specs.Attempts.{asker_of}
use Rattle.file_rules.specs.Files.{OpenFile, open_file}
use Rattle.file_rules.specs.declared.path_call.PathCall.{PathCall}
use Rattle.call_laws.specs.Terminals.{KeepsReading}
use Rattle.call_laws.specs.Others.{AttemptsCall}
use Rattle.file_laws.specs.Devices.{IsDevice, number_in}
use Rattle.file_laws.specs.Touch.{ChangesPath, IsSamePath}
use Rattle.isolation_laws.specs.Drives.{AttemptsService}
use Rattle.machine_model.specs.Services.{on_paths}
use Rattle.machine_model.specs.State.{State}

-- F$Fork makes a process, and gives it the standard paths of its parent
pub record IsGivenPaths (s : State) (p q : ℕ) (numbers : List (Option SysPath)) : Type 0 where
  pub call : AttemptsCall s.processes p Call.Fork
  pub number : free_process s.processes.records ≡ Some q
  pub given : numbers ≡ inherited_numbers (numbers_of s.files.io.paths p)

-- a process writes to a terminal, which fails in it
pub record FailsInWrite (s : State) (p n : ℕ) (t : State) : Type 0 where
  pub writes : (code : ℕ) × (act_of s.processes p ≡ attempts code) × (direction_of code ≡ Some Writing)
  pub failed : ChangesOneTerminal (λ before now. Rose before.faults now.faults) n s.terms t.terms

-- the path number of a call of a process; it does not depend on the time
abbrev pub number_of_call : State → ℕ → PathCall → ℕ
number_of_call s p call = number_in call (asker_of s.processes p s.clock.from)

-- a process attempts a call that moves the position of the path on a file which its number names, or sets its ticks:
-- this path
pub record MovesPath (s : State) (p : ℕ) (opened : OpenPath) : Type 0 where
  pub call : PathCall
  pub attempted : AttemptsService s p (on_paths call)
  pub moves : ChangesPath call (asker_of s.processes p s.clock.from)
  pub found : OpenFile
  pub named : open_file s.files p (number_of_call s p call) ≡ Some found
  pub same : found.opened ≡ opened

-- a path of another process stays: the same path, opened on the same file or device with the same mode. Nothing of it
-- changes but its position on a file and its ticks, by a call on the same path, which F$Fork and I$Dup give to several
-- numbers
pub record StaysOpen (s : State) (p : ℕ) (t : State) (q n : ℕ) (opened : OpenPath) : Type 0 where
  pub now : OpenPath
  pub is : open_path t.files.io q n ≡ Some now
  pub same : IsSamePath opened now
  pub position : (now ≡ opened) ⊎ MovesPath s p opened
  pub device : IsDevice opened.desc.target → now ≡ opened

-- an event of a process leaves the input and output of the others unchanged
pub record LeavesIo (s : State) (p : ℕ) (t : State) : Type 0 where
  -- the sixteen numbers of another process stay, except those of a child that F$Fork makes
  pub numbers : (q : ℕ) → q ≢ p → (numbers_of t.files.io.paths q ≡ numbers_of s.files.io.paths q)
      ⊎ IsGivenPaths s p q (numbers_of t.files.io.paths q)
  -- a path of another living process stays
  pub paths : (q n : ℕ) (opened : OpenPath) → q ≢ p → IsLiving s.processes.records q
      → open_path s.files.io q n ≡ Some opened → StaysOpen s p t q n opened
  -- the pending call of another process stays
  pub calls : (q : ℕ) → q ≢ p → pending_at t.files.io q ≡ pending_at s.files.io q
  -- a terminal stays while a read of another process is unfinished there, unless a write fails, which drops the read
  pub readings : (n q : ℕ) → q ≢ p → reader (terminal_at s.files.io n) ≡ Some (pid q)
      → KeepsReading (terminal_at s.files.io n) (terminal_at t.files.io n)
      ⊎ FailsInWrite s p n t
      × (terminal_at t.files.io n ≡ without_reading (used_by (pid p) (terminal_at s.files.io n)))
