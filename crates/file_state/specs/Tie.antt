-- The relation between the kernel's files and those of the machine.
use Rattle.std.specs.Prelude.{◌≡◌, List}
use Rattle.file_rules.specs.Files.{Files}
use Rattle.file_drives.specs.Drives.{DriveView, drive_states}
use Rattle.file_drives.specs.Mounted.{AreMounted}
use Rattle.file_laws.specs.Kinds.{AreKinds}
use Rattle.file_state.specs.declared.state.FileState.{FileState}

-- the kernel's files are those of the machine: its volumes are mounted on the drives, and all else is equal
pub record RepresentsFiles (state : FileState) (views : List DriveView) (files : Files) : Type 0 where
  pub io : files.io ≡ state.io
  pub directories : files.directories ≡ state.directories
  pub records : files.records ≡ state.records
  pub drives : files.drives ≡ drive_states views
  pub mounted : AreMounted state.disks views files.volumes

-- the kernel's files are those of some state in which the targets of paths and directories exist
pub record AreSoundFiles (state : FileState) (views : List DriveView) : Type 0 where
  pub files : Files
  pub stands : RepresentsFiles state views files
  pub kinds : AreKinds files
