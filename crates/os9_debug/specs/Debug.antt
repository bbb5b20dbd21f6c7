-- What `debug` does (this project's own; what a session shows is in Session.antt).
use Rattle.std.specs.Prelude.{◌≡◌, ◌⊎◌, ℕ, ⊤, Option, Some, Ok, Err, List, ◌∷◌, ◌++◌, length, slice_get}
use Rattle.os9_outer.specs.Host.{HostFiles, file_contents}
use Rattle.script_text.specs.declared.script.ScriptKey.{ScriptKey}
use Rattle.script_text.specs.Script.{keys_of}
use Rattle.machine_model.specs.ProcessStart.{RefusesBoot}
use Rattle.machine_model.specs.declared.ends.BootFault.{BootFault}
use Rattle.os9_words.specs.declared.debug_words.DebugWords.{DebugWords}
use Rattle.boot_run.specs.World.{World}
use Rattle.os9_debug.specs.Commands.{commands_of}
use Rattle.os9_debug.specs.declared.command.Command.{Command}
use Rattle.os9_debug.specs.Machine.{HasStart}
use Rattle.os9_debug.specs.Session.{FailsToPrint, PrintsAll, PrintsSome, StopsAtTerminal}
use Rattle.os9_debug.specs.declared.machine.Machine.{Machine}
use Rattle.boot_run.specs.End.{boot_end, run_file_name}
use Rattle.boot_run.specs.FileNames.{script_names}
use Rattle.boot_run.specs.Reading.{BreaksSlices}
use Rattle.boot_run.specs.Setup.{HaveTexts, script_of}
use Rattle.boot_run.specs.declared.status.End.{End}
use Rattle.boot_run.specs.declared.status.End.TheVariants.{Ended, CannotRead, CannotWrite, NoMemory, BadText, TerminalFailed}
use Rattle.boot_run.specs.declared.status.Input.{Input}
use Rattle.boot_run.specs.declared.status.Input.TheVariants.{Script, Commands}

-- ---- the words

-- the names of its files: those of the run, and COMMANDS
abbrev pub debug_file_name : DebugWords → Input → Option (List ℕ)
debug_file_name debug Commands = Some debug.commands
debug_file_name debug input = run_file_name debug.run input

-- the files that it reads, in order: the script, the slice text, the commands and the modules
abbrev pub debug_inputs : DebugWords → List (List ℕ)
debug_inputs debug = script_names debug.run ++ debug.run.slices ∷ debug.commands ∷ debug.run.files

-- ---- the session

-- a session of these commands over this machine: that of the files and the words, with this number of terminals
pub record HasDebugSession (files : HostFiles) (debug : DebugWords) (terminals : ℕ) (machine : Machine)
    (commands : List Command)
    : Type 0 where
  pub texts : HaveTexts files debug.run terminals machine.keys.now machine.slices.now
  pub commands_are : commands_of (file_contents files debug.commands) ≡ Ok commands
  pub name : List ℕ
  pub modules : slice_get debug.run.files 0 ≡ Some name
  pub file : machine.file.now ≡ file_contents files name
  pub blocks : machine.blocks ≡ debug.run.blocks
  pub time : machine.time ≡ debug.run.start

-- there is such a session, with this outcome
pub record SessionThen (files : HostFiles) (debug : DebugWords) (terminals : ℕ) (then_ : Machine → List Command
    → Type 0)
    : Type 0 where
  pub machine : Machine
  pub commands : List Command
  pub has : HasDebugSession files debug terminals machine commands
  pub rest : then_ machine commands

-- ---- a text is refused

-- the script and the slice text are accepted, and the commands are refused: their first bad line
pub record BreaksCommands (files : HostFiles) (debug : DebugWords) (terminals line : ℕ) : Type 0 where
  pub keys : List ScriptKey
  pub slices : List ℕ
  pub texts : HaveTexts files debug.run terminals keys slices
  pub refused : commands_of (file_contents files debug.commands) ≡ Err line

-- the script; or after an accepted script the slice text; or after both the commands
abbrev pub RefusesDebugText : HostFiles → DebugWords → (terminals : ℕ) → Input → (line : ℕ) → Type 0
RefusesDebugText files debug terminals Script line = keys_of terminals (script_of files debug.run) ≡ Err line
RefusesDebugText files debug terminals Commands line = BreaksCommands files debug terminals line
RefusesDebugText files debug terminals input line =
    BreaksSlices terminals line (script_of files debug.run) (file_contents files debug.run.slices)

-- ---- how it ends

-- the machine starts, and the output gained what the commands show
abbrev pub PrintsWhole : World → World → Machine → List Command → Type 0
PrintsWhole before after machine commands =
    HasStart machine before.devices × PrintsAll machine commands before after

-- the boot file is refused, and the end says why
abbrev pub EndsRefused : End → Machine → List Command → Type 0
EndsRefused end machine commands =
    (fault : BootFault) × RefusesBoot machine.file.now machine.blocks fault × (end ≡ boot_end fault)

-- its outcome, by its end
abbrev pub DebugComesTo : HostFiles → DebugWords → World → World → End → Type 0
DebugComesTo files debug before after Ended =
    SessionThen files debug (length before.devices.terms) (PrintsWhole before after)
DebugComesTo files debug before after (CannotRead input) = ⊤
DebugComesTo files debug before after (BadText input line) =
    RefusesDebugText files debug (length before.devices.terms) input line
DebugComesTo files debug before after CannotWrite =
    SessionThen files debug (length before.devices.terms)
    (λ machine commands. FailsToPrint machine commands before after)
DebugComesTo files debug before after (TerminalFailed n) =
    SessionThen files debug (length before.devices.terms)
    (λ machine commands. StopsAtTerminal n machine commands before after)
DebugComesTo files debug before after NoMemory =
    (after.out ≡ before.out)
    ⊎ SessionThen files debug (length before.devices.terms)
    (λ machine commands. PrintsSome machine commands before after)
DebugComesTo files debug before after end =
    SessionThen files debug (length before.devices.terms) (EndsRefused end)
