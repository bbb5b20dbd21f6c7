-- The number of the drive's fault that a call reports, if any, and the number of an error.
use Rattle.std.specs.Prelude.{ℕ, Option, Some, None, Result, Ok, Err}
use Rattle.os9_base.specs.declared.errors.TheConstants.{E_SLF, E_FULL}
use Rattle.os9_outer.specs.Drive.{drive_error}
use Rattle.os9_outer.specs.declared.drive.DriveFault.{DriveFault}
use Rattle.rbf_access.specs.declared.faults.FileFault.{FileFault}
use Rattle.rbf_access.specs.declared.faults.FileFault.TheVariants as file
use Rattle.rbf_access.specs.declared.faults.VolFault.{VolFault}
use Rattle.rbf_access.specs.declared.faults.VolFault.TheVariants as volume

abbrev pub drive_fault : {A : Type 0} → Result A DriveFault → Option ℕ
drive_fault (Ok a) = None
drive_fault (Err fault) = Some (drive_error fault)

abbrev pub file_fault : {A : Type 0} → Result A FileFault → Option ℕ
file_fault (Ok a) = None
file_fault (Err (file.Device n)) = Some n
file_fault (Err file.NoCluster) = None
file_fault (Err file.TooManyRuns) = None

-- the error number of a call on a file (System Programmer's Manual, error codes: E$Full, E$SLF), or the number of the
-- drive's fault
abbrev pub file_error : FileFault → ℕ
file_error (file.Device n) = n
file_error file.NoCluster = E_FULL
file_error file.TooManyRuns = E_SLF

abbrev pub volume_fault : {A : Type 0} → Result A VolFault → Option ℕ
volume_fault (Ok a) = None
volume_fault (Err (volume.Device n)) = Some n
volume_fault (Err volume.NotRbf) = None
volume_fault (Err volume.OutOfMemory) = None
