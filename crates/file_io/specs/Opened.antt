-- A path on a file or a directory, as the kernel has found it.
use Rattle.std.specs.Prelude.{◌≡◌, ℕ, true, Option, Some, List}
use Rattle.rbf_model.specs.File.{DiskFile}
use Rattle.rbf_model.specs.Volume.{DiskVolume}
use Rattle.io_model.specs.Path.{with_desc}
use Rattle.io_model.specs.Io.{Io, with_paths}
use Rattle.io_model.specs.Modes.{can_write}
use Rattle.rbf_access.specs.declared.volume.Volume.{Volume}
use Rattle.file_drives.specs.Drives.{DriveView}
use Rattle.file_drives.specs.Mounted.{HasDataFileAt, HasFileAt}
use Rattle.file_rules.specs.Files as rules
use Rattle.file_laws.specs.Kinds.{AreKinds}
use Rattle.file_state.specs.Attempt.{MachineOnDrives}
pub use Rattle.file_state.specs.Opened.{IsPathOf}
use Rattle.file_state.specs.Opened.{IsOpenFileOf, path_of}
use Rattle.file_state.specs.Tie.{RepresentsFiles}
use Rattle.file_state.specs.declared.state.FileState.{FileState}
use Rattle.file_state.specs.declared.state.OpenFile.{OpenFile}

-- the path and its file are there
pub record IsOnFile (opened : OpenFile) (before : MachineOnDrives) : Type 0 where
  pub path : IsPathOf before.files.io opened
  pub file : HasFileAt before.files.disks before.views opened.place

-- a number of a process names the path, which is on the file at its place, for all files that the kernel's state
-- represents
pub record IsOpenedPath (state : FileState) (p n : ℕ) (opened : OpenFile) : Type 0 where
  pub path : IsPathOf state.io opened
  pub file : (views : List DriveView) (files : rules.Files) → RepresentsFiles state views files → AreKinds files
      → IsOpenFileOf state views files p n opened

-- the file, on a volume, in the terms of the rules of the calls
abbrev pub found_on : OpenFile → DiskVolume → DiskFile → rules.OpenFile
found_on opened v file =
    record { opened = path_of opened; place = opened.place; volume = v; file = file }

-- the state with another position of the path
abbrev pub moved_to : Io → OpenFile → ℕ → Io
moved_to io opened at =
    with_paths io (with_desc io.paths opened.path.0 (Some (record opened.desc { at = at })))

-- if its mode allows writing, the path is on a file that is not a directory
abbrev pub MayBeWritten : OpenFile → List (Option Volume) → List DriveView → Type 0
MayBeWritten opened disks views = can_write opened.desc.mode ≡ true → HasDataFileAt disks views opened.place
