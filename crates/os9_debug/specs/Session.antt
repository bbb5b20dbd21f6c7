-- A session (this project's own).
use Rattle.std.specs.Prelude.{◌≡◌, ◌≢◌, ◌⊎◌, ℕ, All, Result, Some, Err, IfErr, OnOk, List, [], take, fold, slice_get}
use Rattle.os9_outer.specs.Stream.{GainsPrefix, stream_with}
use Rattle.boot_run.specs.Dropped.{FailsAt}
use Rattle.machine_model.specs.ProcessStart.{RefusesBoot}
use Rattle.machine_model.specs.Start.{Starts}
use Rattle.machine_model.specs.State.{State}
use Rattle.run_laws.specs.Faults.{CanRise}
use Rattle.os9_debug.specs.declared.command.Command.{Command}
use Rattle.os9_kernel.specs.Outside.{Outside}
use Rattle.os9_debug.specs.Course.{Course, position_after}
use Rattle.os9_debug.specs.Prints.{printed_from}
use Rattle.os9_debug.specs.Devices.{DevicesGain}
use Rattle.boot_run.specs.World.{FailsToWrite, HasNoFault, World}
use Rattle.os9_debug.specs.Counts.{FailedOnce, TerminalRose}
use Rattle.os9_debug.specs.Machine.{CourseOf, HasNoBytes, HasStart, InCourse, boot_of, loaded_devices}
use Rattle.os9_debug.specs.Moves.{LeadsBack}
use Rattle.os9_debug.specs.declared.machine.Machine.{Machine}
use Rattle.os9_debug.specs.declared.machine.SessionFault.{SessionFault}
use Rattle.os9_debug.specs.declared.machine.SessionFault.TheVariants.{Refused, TerminalFailed, OutputFailed, NoMemory}

-- the output gained what the commands show, in the course of the machine
abbrev pub PrintsAll : Machine → List Command → World → World → Type 0
PrintsAll machine commands before after = InCourse machine before.devices after.devices (λ course.
    after.out ≡ stream_with before.out (printed_from course 0 commands))

-- the output gained the first of it
abbrev pub PrintsFirstOfCourse : Machine → List Command → World → World → Course → Type 0
PrintsFirstOfCourse machine commands before after course =
    GainsPrefix before.out (printed_from course 0 commands) after.out

-- the machine starts, and the output gained the first of it
abbrev pub PrintsSome : Machine → List Command → World → World → Type 0
PrintsSome machine commands before after =
    HasStart machine before.devices
    × InCourse machine before.devices after.devices (PrintsFirstOfCourse machine commands before after)

-- the machine starts, the commands show something, and the output gained the first of it
abbrev pub FailsToPrint : Machine → List Command → World → World → Type 0
FailsToPrint machine commands before after =
    HasStart machine before.devices
    × InCourse machine before.devices after.devices (λ course.
    PrintsFirstOfCourse machine commands before after course × (printed_from course 0 commands ≢ []))

-- the position to which the commands lead, one after another from the first position
abbrev pub position_behind : Course → List Command → ℕ
position_behind course commands = fold (position_after course) 0 commands

-- The machine starts, some commands are done, and terminal n fails in the next one. If no terminal had bytes before and
-- nothing else failed, that command leads back and shows nothing, and the output gained what those before it show.
pub record StopsAtTerminal (n : ℕ) (machine : Machine) (commands : List Command) (before after : World) : Type 0 where
  pub starts : HasStart machine before.devices
  pub rose : TerminalRose n before.devices after.devices
  pub done : ℕ
  pub next : Command
  pub next_is : slice_get commands done ≡ Some next
  pub between : Outside  -- the devices before that command
  pub gains : DevicesGain (loaded_devices machine before.devices) between
  pub fails : FailsAt n between.terms after.devices.terms
  pub prints : All HasNoBytes before.devices.terms → FailedOnce n before.devices after.devices
      → (course : Course) → CourseOf machine before.devices course
      → (after.out ≡ stream_with before.out (printed_from course 0 (take done commands)))
      × LeadsBack next (position_behind course (take done commands))

-- why a session stopped before its last command was done, and what is left
abbrev pub StopsDebugSession : Machine → List Command → World → World → SessionFault → Type 0
StopsDebugSession machine commands before after (Refused fault) =
    RefusesBoot machine.file.now machine.blocks fault × (after ≡ before)
StopsDebugSession machine commands before after (TerminalFailed n) = StopsAtTerminal n machine commands before after
StopsDebugSession machine commands before after OutputFailed = FailsToPrint machine commands before after
StopsDebugSession machine commands before after NoMemory =
    (after.out ≡ before.out) ⊎ PrintsSome machine commands before after

-- a session was had
pub record DebugSessionCall {Value : Type 0} (machine : Machine) (commands : List Command)
    (answer : Result Value SessionFault) (before after : World) : Type 0 where
  pub prints : OnOk answer (PrintsAll machine commands before after)
  pub starts : OnOk answer (HasStart machine before.devices)
  pub stops : IfErr answer (StopsDebugSession machine commands before after)
  -- the host failed, and last at a write to the output; at every other end it did not fail
  pub output_fault : answer ≡ Err OutputFailed → FailsToWrite before after
  pub no_fault : answer ≢ Err OutputFailed → HasNoFault before after
  pub files_kept : after.files ≡ before.files

-- every count of faults can rise at the start
abbrev pub CanFail : Machine → Outside → Type 0
CanFail machine devices = (s : State) → Starts (boot_of machine devices) s → CanRise s

-- the output gained what the commands show in the course of the machine, which is its only one
pub record ShowsTheCourse (machine : Machine) (commands : List Command) (before after : World) : Type 0 where
  pub course : Course
  pub is : CourseOf machine before.devices course
  pub only : (other : Course) → CourseOf machine before.devices other → course ≡ other
  pub shown : after.out ≡ stream_with before.out (printed_from course 0 commands)
