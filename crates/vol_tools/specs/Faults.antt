-- The fault of a tool for an error of the calls that it makes, and how a tool changes the drive's count of faults.
use Rattle.std.specs.Prelude.{◌≡◌, ℕ, ◌≤◌, Option, Some, None, IfSome, IfNone, option_map, Result, Ok, Err}
use Rattle.os9_base.specs.Count.{Rose}
use Rattle.os9_base.specs.declared.errors.TheConstants.{E_FNA, E_BPNAM, E_PNNF, E_CEF, E_FULL, E_SLF}
use Rattle.os9_outer.specs.Drive.{drive_error}
use Rattle.os9_outer.specs.declared.drive.BlockDriver.{Ghosts}
use Rattle.rbf_access.specs.Drive.{DriveCounts, counts_of}
use Rattle.rbf_access.specs.declared.faults.FileFault.{FileFault}
use Rattle.rbf_access.specs.declared.faults.FileFault.TheVariants as file
use Rattle.rbf_walk.specs.declared.error.DirError.{DirError}
use Rattle.rbf_walk.specs.declared.error.DirError.TheVariants.{NotAllowed, BadPath, NotFound, Exists, File}
use Rattle.vol_tools.specs.declared.fault.ToolFault.{ToolFault}
use Rattle.vol_tools.specs.declared.fault.ToolFault.TheVariants.{Number, Device, OutOfMemory}

abbrev pub of_file : FileFault → ToolFault
of_file (file.Device n) = Device n
of_file file.NoCluster = Number E_FULL
of_file file.TooManyRuns = Number E_SLF

abbrev pub of_directory : DirError → ToolFault
of_directory NotAllowed = Number E_FNA
of_directory BadPath = Number E_BPNAM
of_directory NotFound = Number E_PNNF
of_directory Exists = Number E_CEF
of_directory (File fault) = of_file fault

-- the number of the drive's fault that a tool reports, if any
abbrev pub tool_fault : {A : Type 0} → Result A ToolFault → Option ℕ
tool_fault (Ok a) = None
tool_fault (Err (Number n)) = None
tool_fault (Err (Device n)) = Some n
tool_fault (Err OutOfMemory) = None

-- a call that the fault of this number ended, if any: then the count of faults rose, and this fault is the last one;
-- without a fault the count and the last fault are unchanged
pub record MovesFaults (fault : Option ℕ) (before now : DriveCounts) : Type 0 where
  pub never_falls : before.faults ≤ now.faults
  pub rose : IfSome fault (λ n. Rose before.faults now.faults)
  pub number : IfSome fault (λ n. option_map drive_error now.last ≡ Some n)
  pub kept : IfNone fault (now.faults ≡ before.faults)
  pub last_kept : IfNone fault (now.last ≡ before.last)

-- the same for a lent drive, as `Faults BlockDriver-dyn fault d.old d.new`
abbrev pub Faults : {Table : Type 0} {Driver : Table → Type 0}
    → ((drive : (table : Table) × Driver table) → Ghosts (Driver drive.0)) → Option ℕ
    → (table : Table) × Driver table → (table : Table) × Driver table → Type 0
Faults members fault before now = MovesFaults fault (counts_of members before) (counts_of members now)
