-- The steps of `debug`: its files, its commands and the session.
use Rattle.std.specs.Prelude.{◌≡◌, ⊤, ℕ, Some, Result, Ok, Err, List, slice_get}
use Rattle.os9_outer.specs.Host.{HostFiles, file_contents}
use Rattle.os9_words.specs.declared.debug_words.DebugWords.{DebugWords}
use Rattle.boot_run.specs.World.{World}
use Rattle.os9_debug.specs.Commands.{commands_of}
use Rattle.os9_debug.specs.declared.command.Command.{Command}
use Rattle.os9_debug.specs.Session.{DebugSessionCall}
use Rattle.os9_debug.specs.declared.machine.Machine.{Machine}
use Rattle.os9_debug.specs.declared.machine.SessionFault.{SessionFault}
use Rattle.os9_debug.specs.declared.machine.SessionFault.TheVariants as Fault
use Rattle.boot_run.specs.End.{boot_end}
use Rattle.boot_run.specs.Setup.{script_of}
use Rattle.boot_run.specs.declared.status.End.{End}
use Rattle.boot_run.specs.declared.status.End.TheVariants.{Ended, CannotWrite, NoMemory, BadText, TerminalFailed}
use Rattle.boot_run.specs.declared.status.Input.TheVariants.{Commands}
use Rattle.os9_debug.specs.declared.files.DebugFiles.{DebugFiles}

-- the bytes that were read are those of the files that the words name
pub record HasDebugFiles (files : HostFiles) (debug : DebugWords) (read : DebugFiles) : Type 0 where
  pub script : read.script.items ≡ script_of files debug.run
  pub slices : read.slices.items ≡ file_contents files debug.run.slices
  pub commands : read.commands.items ≡ file_contents files debug.commands
  pub modules : (name : List ℕ) × (slice_get debug.run.files 0 ≡ Some name)
      × (read.modules.items ≡ file_contents files name)

-- why the commands end the call: their first bad line; or memory was out
abbrev pub RefusesCommands : List ℕ → End → Type 0
RefusesCommands text (BadText Commands line) = commands_of text ≡ Err line
RefusesCommands text NoMemory = ⊤
RefusesCommands text end = ⊥

-- the end of the call, by the end of its session
abbrev pub session_end : {Value : Type 0} → Result Value SessionFault → End
session_end (Ok value) = Ended
session_end (Err (Fault.Refused fault)) = boot_end fault
session_end (Err (Fault.TerminalFailed n)) = TerminalFailed n
session_end (Err Fault.OutputFailed) = CannotWrite
session_end (Err Fault.NoMemory) = NoMemory

-- a session was had, and the call has this end
pub record HadSession (machine : Machine) (commands : List Command) (end : End) (before after : World) : Type 0 where
  pub answer : Result (Unit {0}) SessionFault
  pub ends : end ≡ session_end answer
  pub call : DebugSessionCall machine commands answer before after
