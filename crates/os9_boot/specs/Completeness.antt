-- Calls in which no count of faults rose (this project's own).
use Rattle.std.specs.Prelude.{◌≢◌, ℕ, ⊤}
use Rattle.os9_base.specs.Count.{Rose}
use Rattle.file_drives.specs.Drives.{drive_states}
use Rattle.file_rules.specs.Files.{drive_at}
use Rattle.boot_run.specs.World.{World}
use Rattle.boot_run.specs.End.{status_number}
use Rattle.boot_run.specs.declared.status.End.{End}
use Rattle.boot_run.specs.declared.status.End.TheVariants.{CannotRead, CannotWrite, CannotWriteImage, CannotWriteFile, DriveFailed}

-- neither the host's nor a drive's count of faults rose
pub record NoneRose (before after : World) : Type 0 where
  pub host : ¬ Rose before.faults after.faults
  pub drives : (drive : ℕ) → ¬ Rose (drive_at (drive_states before.devices.drives) drive).faults
      (drive_at (drive_states after.devices.drives) drive).faults

-- the end does not report a fault of the host or of a drive
abbrev pub TellsNoFault : End → Type 0
TellsNoFault (CannotRead input) = ⊥
TellsNoFault CannotWrite = ⊥
TellsNoFault (CannotWriteImage number) = ⊥
TellsNoFault CannotWriteFile = ⊥
TellsNoFault (DriveFailed drive number) = ⊥
TellsNoFault end = ⊤

-- the status is not that of an end that reports such a fault: it is not 2, 3 or 9
abbrev pub IsNoFault : ℕ → Type 0
IsNoFault status = (end : End) → ¬ TellsNoFault end → status ≢ status_number end
