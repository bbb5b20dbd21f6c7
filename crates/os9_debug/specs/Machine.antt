-- The machine of a session, and its course.
use Rattle.std.specs.Prelude.{◌≡◌, ◌<◌, ◌^◌, All, Result, Ok, Err, []}
use Rattle.os9_outer.specs.Stream.{emptied}
use Rattle.os9_outer.specs.TerminalState.{TerminalState}
use Rattle.script_text.specs.declared.script.ScriptKey.{ScriptKey}
use Rattle.boot_run.specs.Loaded.{loaded}
use Rattle.machine_model.specs.declared.ends.BootFault.{BootFault}
use Rattle.machine_model.specs.declared.ends.BootFault.TheVariants.{OutOfMemory, BadModule, NoFirst, TooLarge}
use Rattle.file_drives.specs.Drives.{drive_states}
use Rattle.machine_model.specs.Start.{Boot as Begun, Starts}
use Rattle.machine_model.specs.State.{State}
use Rattle.os9_kernel.specs.Outside.{Outside}
use Rattle.os9_kernel.specs.declared.new.Config.{Config}
use Rattle.boot_run.specs.Machine.{CanRun}
use Rattle.os9_debug.specs.Course.{Course}
use Rattle.os9_debug.specs.Prints.{IsCourse}
use Rattle.os9_debug.specs.Devices.{Unfailed}
use Rattle.os9_debug.specs.declared.machine.Machine.{Machine}
use Rattle.os9_debug.specs.declared.machine.SessionFault.{SessionFault}
use Rattle.os9_debug.specs.declared.machine.SessionFault.TheVariants.{Refused, NoMemory}

-- what its kernel is made with
abbrev pub debug_config : Machine → Config
debug_config machine = record { blocks = machine.blocks; images = 0; time = machine.time }

-- a key whose tick has 32 bits
abbrev pub HasKeyTick : ScriptKey → Type 0
HasKeyTick key = key.tick < 2 ^ 32

-- what it needs to be started on these devices: those of any run, without images
pub record CanStart (machine : Machine) (devices : Outside) : Type 0 where
  pub can_run : CanRun (debug_config machine) machine.slices.now devices
  pub ticks : All HasKeyTick machine.keys.now

-- the devices, once the terminals are loaded with their keys
abbrev pub loaded_devices : Machine → Outside → Outside
loaded_devices machine devices = record devices { terms = loaded machine.keys.now devices.terms }

-- what it starts with on these devices
abbrev pub boot_of : Machine → Outside → Begun
boot_of machine devices = record {
  file = machine.file.now;
  blocks = machine.blocks;
  time = machine.time;
  images = [];
  drives = drive_states devices.drives;
  terms = loaded machine.keys.now devices.terms;
}

-- there is a state in which it starts
abbrev pub HasStart : Machine → Outside → Type 0
HasStart machine devices = (s : State) × Starts (boot_of machine devices) s

-- its course on these devices
abbrev pub CourseOf : Machine → Outside → Course → Type 0
CourseOf machine devices course = IsCourse (boot_of machine devices) machine.slices.now course

-- no bytes are on a terminal, if they are observed
abbrev pub HasNoBytes : TerminalState → Type 0
HasNoBytes terminal = terminal.put ≡ emptied terminal.put

-- The fact holds in the course of the machine that was started on the first of these devices, if no bytes were on its
-- terminals, and no count of faults rose until the devices were the second.
abbrev pub InCourse : Machine → Outside → Outside → (Course → Type 0) → Type 0
InCourse machine first devices fact =
    All HasNoBytes first.terms → Unfailed first devices → (course : Course) → CourseOf machine first course
    → fact course

-- why a machine does not start: no image is in a drive, so none fails
abbrev pub start_fault : BootFault → SessionFault
start_fault OutOfMemory = NoMemory
start_fault (BadModule at error) = Refused (BadModule at error)
start_fault NoFirst = Refused NoFirst
start_fault TooLarge = Refused TooLarge

-- the result of a call that fails only if memory is out
abbrev pub or_no_memory : {Value Error : Type 0} → Result Value Error → Result Value SessionFault
or_no_memory (Ok value) = Ok value
or_no_memory (Err error) = Err NoMemory
