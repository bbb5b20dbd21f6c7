-- How a command may end, and what it leaves of the output, the devices and the files (this project's own).
use Rattle.std.specs.Prelude.{◌≡◌, ℕ, ⊤, IsSome, List}
use Rattle.os9_outer.specs.Host.{IfObserved}
use Rattle.boot_run.specs.Machine.{FailsToMount}
use Rattle.boot_run.specs.World.{World}
use Rattle.boot_run.specs.Left.{ChangesOnly, IsSilent}
use Rattle.boot_run.specs.declared.status.End.{End}
use Rattle.boot_run.specs.declared.status.End.TheVariants.{Ended, Living, CannotRead, CannotWrite, CannotWriteImage, NoMemory, BadImage, BadText, BadBounds, DriveFailed, CannotWriteFile, Refused, BadSource, TerminalFailed}
use Rattle.boot_run.specs.declared.status.Input.{Input}
use Rattle.boot_run.specs.declared.status.Input.TheVariants.{Script, Slices}
use Rattle.os9_boot.specs.History.{Outputs}

-- ---- how it may end

-- the words of a run and a boot name two texts
abbrev pub IsBootText : Input → Type 0
IsBootText Script = ⊤
IsBootText Slices = ⊤
IsBootText input = ⊥

-- the ends of a run: it has no image to check, to mount or to write, and does not go back
abbrev pub RunMayEnd : End → Type 0
RunMayEnd (BadText input line) = IsBootText input
RunMayEnd (BadImage number fault) = ⊥
RunMayEnd BadBounds = ⊥
RunMayEnd (CannotWriteImage number) = ⊥
RunMayEnd (DriveFailed drive number) = ⊥
RunMayEnd CannotWriteFile = ⊥
RunMayEnd (Refused number) = ⊥
RunMayEnd (BadSource line error) = ⊥
RunMayEnd (TerminalFailed n) = ⊥
RunMayEnd end = ⊤

-- those of a boot: it makes no file but that of its history, uses no tool, and reads no source
abbrev pub BootMayEnd : Outputs → End → Type 0
BootMayEnd outputs (BadText input line) = IsBootText input
BootMayEnd outputs CannotWriteFile = IsSome outputs.history
BootMayEnd outputs (Refused number) = ⊥
BootMayEnd outputs (BadSource line error) = ⊥
BootMayEnd outputs (TerminalFailed n) = ⊥
BootMayEnd outputs end = ⊤

-- those of a check: it has one image, and runs nothing
abbrev pub CheckMayEnd : End → Type 0
CheckMayEnd Ended = ⊤
CheckMayEnd (CannotRead input) = ⊤
CheckMayEnd CannotWrite = ⊤
CheckMayEnd NoMemory = ⊤
CheckMayEnd (BadImage number fault) = number ≡ 0
CheckMayEnd end = ⊥

-- those of a stress: it reads and writes no file, and has one image
abbrev pub StressMayEnd : End → Type 0
StressMayEnd Ended = ⊤
StressMayEnd Living = ⊤
StressMayEnd CannotWrite = ⊤
StressMayEnd NoMemory = ⊤
StressMayEnd (DriveFailed drive number) = drive ≡ 0
StressMayEnd end = ⊥

-- ---- what it leaves

-- what is left of the output and the devices, observed or not, by the end of the command with this number of images: if
-- no machine was started all is unchanged, or the drive of an image failed
abbrev pub CommandLeavesDevices : ℕ → World → World → End → Type 0
CommandLeavesDevices images before after Ended = ⊤
CommandLeavesDevices images before after Living = ⊤
CommandLeavesDevices images before after CannotWrite = ⊤
CommandLeavesDevices images before after (CannotWriteImage number) = ⊤
CommandLeavesDevices images before after CannotWriteFile = ⊤
CommandLeavesDevices images before after NoMemory = ⊤
CommandLeavesDevices images before after (DriveFailed drive number) = FailsToMount images drive number before after
CommandLeavesDevices images before after end = IsSilent before after

-- what a boot leaves of the files: it writes those of these names only after its run
abbrev pub BootLeavesFiles : List (List ℕ) → World → World → End → Type 0
BootLeavesFiles names before after Ended = IfObserved (ChangesOnly names) before.files after.files
BootLeavesFiles names before after Living = IfObserved (ChangesOnly names) before.files after.files
BootLeavesFiles names before after (CannotWriteImage number) = IfObserved (ChangesOnly names) before.files after.files
BootLeavesFiles names before after CannotWriteFile = IfObserved (ChangesOnly names) before.files after.files
BootLeavesFiles names before after NoMemory = IfObserved (ChangesOnly names) before.files after.files
BootLeavesFiles names before after end = after.files ≡ before.files

-- a check leaves the devices unchanged
pub record CheckLeaves (before after : World) (end : End) : Type 0 where
  pub out : CommandLeavesDevices 0 before after end
  pub devices : after.devices ≡ before.devices

-- the contents of the files are unchanged
abbrev pub KeepsFiles : World → World → End → Type 0
KeepsFiles before after end = after.files ≡ before.files
