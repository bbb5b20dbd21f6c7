-- The one course that a call of `debug` shows (this project's own).
use Rattle.std.specs.Prelude.{◌≡◌, Some, List, length, All}
use Rattle.os9_outer.specs.Host.{HostFiles}
use Rattle.os9_words.specs.Command.{IsRun}
use Rattle.os9_words.specs.declared.debug_words.DebugWords.{DebugWords}
use Rattle.boot_run.specs.Ready.{DevicesAreFree}
use Rattle.boot_run.specs.World.{World}
use Rattle.os9_debug.specs.Devices.{Unfailed}
use Rattle.os9_debug.specs.declared.command.Command.{Command}
use Rattle.os9_debug.specs.Machine.{HasNoBytes}
use Rattle.os9_debug.specs.Session.{CanFail, ShowsTheCourse}
use Rattle.os9_debug.specs.declared.machine.Machine.{Machine}
use Rattle.os9_debug.specs.Debug.{HasDebugSession, SessionThen}

-- a call over observed files and free devices, in which no count of faults rose, though each could, and before which no
-- bytes were on a terminal
pub record IsFaultlessDebug (files : HostFiles) (debug : DebugWords) (before after : World) : Type 0 where
  pub observed : before.files ≡ Some files
  pub words : IsRun debug.run
  pub free : DevicesAreFree 0 before.devices
  pub bare : All HasNoBytes before.devices.terms
  pub unfailed : Unfailed before.devices after.devices
  pub can_fail : (machine : Machine) (commands : List Command)
      → HasDebugSession files debug (length before.devices.terms) machine commands → CanFail machine before.devices

-- the output gained what the commands show in the one course of the machine, command by command
abbrev pub ShowsOneCourse : HostFiles → DebugWords → World → World → Type 0
ShowsOneCourse files debug before after =
    SessionThen files debug (length before.devices.terms)
    (λ machine commands. ShowsTheCourse machine commands before after)
