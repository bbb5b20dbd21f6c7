-- A position of a session, and the effect of its steps.
use Rattle.std.specs.Prelude.{◌≡◌, ℕ, ◌-◌, ◌<◌, ⊤, Result, All, OnOk, IfOk, IfErr, List}
use Rattle.os9_base.specs.Cells.{Cells}
use Rattle.boot_run.specs.Loaded.{loaded}
use Rattle.boot_run.specs.Dropped.{FailsAt}
use Rattle.machine_model.specs.ProcessStart.{RefusesBoot}
use Rattle.machine_model.specs.declared.ends.BootFault.{BootFault}
use Rattle.file_drives.specs.Drives.{drive_states}
use Rattle.machine_model.specs.State.{State}
use Rattle.os9_kernel.specs.Outside.{Outside}
use Rattle.os9_debug.specs.Course.{Course, last_of, position_after, state_at}
use Rattle.os9_debug.specs.Prints.{shows}
use Rattle.os9_debug.specs.Show.{shown_cells}
use Rattle.os9_debug.specs.declared.command.Command.{Command}
use Rattle.os9_debug.specs.declared.command.Command.TheVariants.{To, Back}
use Rattle.os9_debug.specs.Devices.{DevicesGain, Unfailed}
use Rattle.os9_debug.specs.Position.{CanGoOn, IsAt}
use Rattle.os9_debug.specs.declared.position.Position.{Position}
use Rattle.os9_debug.specs.Counts.{NoneFell}
use Rattle.os9_debug.specs.Machine.{CanStart, CourseOf, HasNoBytes, HasStart, InCourse, loaded_devices}
use Rattle.os9_debug.specs.declared.machine.Machine.{Machine}
use Rattle.os9_debug.specs.declared.machine.SessionFault.{SessionFault}
use Rattle.os9_debug.specs.declared.machine.SessionFault.TheVariants.{Refused, TerminalFailed, OutputFailed, NoMemory}

-- ---- a start

-- the boot file is refused, and the devices are unchanged; or memory was out, and no count of faults fell
abbrev pub FailsToStart : Machine → Outside → Outside → SessionFault → Type 0
FailsToStart machine before after (Refused fault) =
    RefusesBoot machine.file.now machine.blocks fault × (after ≡ before)
FailsToStart machine before after (TerminalFailed n) = ⊥
FailsToStart machine before after OutputFailed = ⊥
FailsToStart machine before after NoMemory = NoneFell before after

-- a machine was started on these devices, and its terminals are loaded; the position is the first of its course
pub record HasStartedMachine (machine : Machine) (answer : Result Position SessionFault) (before after : Outside) : Type
    0
  where
    pub terminals : OnOk answer (after.terms ≡ loaded machine.keys.now before.terms)
    pub drives : OnOk answer (drive_states after.drives ≡ drive_states before.drives)
    pub goes_on : IfOk answer (λ position. CanGoOn machine.slices.now position after)
    pub at : IfOk answer (λ position. (course : Course) (is : CourseOf machine before course)
        → IsAt course is.last machine.slices.now position after)
    pub first : IfOk answer (λ position. position.events ≡ 0)
    pub starts : OnOk answer (HasStart machine before)
    pub accepted : OnOk answer ((fault : BootFault) → ¬ RefusesBoot machine.file.now machine.blocks fault)
    pub fails : IfErr answer (FailsToStart machine before after)

-- the machine was started on some devices, and the terminals and drives have only gained since
abbrev pub HasCome : Machine → Outside → Type 0
HasCome machine devices =
    (first : Outside) × CanStart machine first × DevicesGain (loaded_devices machine first) devices

-- ---- a position

-- the position is one of the course of the machine that was started on the first of these devices
pub record IsPositionOf (machine : Machine) (first : Outside) (position : Position) (devices : Outside) : Type 0 where
  pub gains : DevicesGain (loaded_devices machine first) devices
  pub goes_on : CanGoOn machine.slices.now position devices
  pub at : All HasNoBytes first.terms → Unfailed first devices
      → (course : Course) (is : CourseOf machine first course)
      → IsAt course is.last machine.slices.now position devices

-- the machine was started on some devices
abbrev pub IsUnderWay : Machine → Position → Outside → Type 0
IsUnderWay machine position devices =
    (first : Outside) × CanStart machine first × IsPositionOf machine first position devices

-- why a move fails: the boot file is refused, a terminal failed, or memory was out and no count of faults fell
abbrev pub FailsToMove : Machine → Outside → Outside → SessionFault → Type 0
FailsToMove machine before after (Refused fault) = RefusesBoot machine.file.now machine.blocks fault
FailsToMove machine before after (TerminalFailed n) =
    FailsAt n before.terms after.terms × (after.drives ≡ before.drives)
FailsToMove machine before after OutputFailed = ⊥
FailsToMove machine before after NoMemory = NoneFell before after

-- the command leads from this position to an earlier one
abbrev pub LeadsBack : Command → ℕ → Type 0
LeadsBack (To k) at = k < at
LeadsBack (Back n) at = at - n < at
LeadsBack command at = ⊥

-- a command may have this fault at this position: out of memory, or another only if it leads back from there
abbrev pub MayFailSo : Command → ℕ → SessionFault → Type 0
MayFailSo command at NoMemory = ⊤
MayFailSo command at fault = LeadsBack command at

-- what holds for every start after which the position was one of the course
abbrev pub FromStart : Machine → Position → Outside → (Outside → Type 0) → Type 0
FromStart machine position devices fact =
    (first : Outside) → CanStart machine first → IsPositionOf machine first position devices → fact first

-- The machine was started again, after a start on the first of these devices: the position is the first of its course,
-- if the drives were as at that start.
pub record IsBack (machine : Machine) (first : Outside) (position : Position) (before after : Outside) : Type 0 where
  pub gains : DevicesGain (loaded_devices machine first) after
  pub at : All HasNoBytes first.terms → Unfailed first after
      → drive_states before.drives ≡ drive_states first.drives
      → (course : Course) (is : CourseOf machine first course)
      → IsAt course is.last machine.slices.now position after

-- a machine was started again
pub record HasRestarted (machine : Machine) (answer : Result Position SessionFault) (before after : Outside) : Type 0
  where
    pub back : IfOk answer (λ position. (first : Outside) → CanStart machine first
        → DevicesGain (loaded_devices machine first) before → IsBack machine first position before after)
    pub goes_on : IfOk answer (λ position. CanGoOn machine.slices.now position after)
    pub first : IfOk answer (λ position. position.events ≡ 0)
    pub counts : OnOk answer (NoneFell before after)
    pub fails : IfErr answer (FailsToMove machine before after)

-- the command moves the position within the course of the machine, or fails
pub record MovesOn {Value : Type 0} (machine : Machine) (command : Command) (old new : Position)
    (answer : Result Value SessionFault) (before after : Outside) : Type 0 where
  pub stays : OnOk answer (FromStart machine old before (λ first. IsPositionOf machine first new after))
  pub counts : OnOk answer (NoneFell before after)
  pub fails : IfErr answer (FailsToMove machine before after)
  pub may_fail : IfErr answer (MayFailSo command old.events)

-- the position is the last one of the course, and before the requested one
pub record IsAtEnd (k : ℕ) (machine : Machine) (old new : Position) (before after : Outside) : Type 0 where
  pub short : new.events < k
  pub last : FromStart machine old before (λ first. InCourse machine first after (λ course.
      last_of course ≡ new.events))

-- what holds for each course in which the position is
abbrev pub AtPosition : Position → (Course → Type 0) → Type 0
AtPosition position fact =
    (course : Course) (last : State) (slices : List ℕ) (devices : Outside) → IsAt course last slices position devices
    → fact course

-- what holds for the bytes that the shown process sees there
abbrev pub SeesCells : Position → (Cells → Type 0) → Type 0
SeesCells position fact = AtPosition position (λ course. fact (shown_cells (state_at course position.events)))

-- a command has led to the new position, and has shown these bytes
abbrev pub HasShown : Machine → Command → Position → Position → List ℕ → Outside → Outside → Type 0
HasShown machine command old new line before after =
    FromStart machine old before (λ first. InCourse machine first after (λ course.
    (line ≡ shows course old.events command) × (new.events ≡ position_after course old.events command)))
