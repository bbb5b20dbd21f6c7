-- What paths and directories of processes are on (Level Two manual, "Path descriptors"; System Programmer's Manual,
-- I$Open and I$ChgDir). A path opened on a file is on an existing file that is not a directory. A path opened on a
-- directory is on a directory, and may not be written. Each directory of a process is a directory.
use Rattle.std.specs.Prelude.{◌≡◌, ℕ, ◌<◌, Bool, true, false, Some}
use Rattle.io_model.specs.Path.{desc_of}
use Rattle.io_model.specs.declared.path.Desc.{Desc}
use Rattle.io_model.specs.declared.path.Target.{Target}
use Rattle.io_model.specs.declared.path.Target.TheVariants.{File, Folder, Term, Pipe}
use Rattle.rbf_model.specs.File.{DiskFile, is_directory}
use Rattle.rbf_model.specs.Volume.{DiskVolume}
use Rattle.rbf_change.specs.Calls.{cluster_size}
use Rattle.io_model.specs.Modes.{can_write}
use Rattle.file_rules.specs.Files.{Files, directory_of, file_in, volume_at}
use Rattle.lock_model.specs.declared.place.FilePlace.{FilePlace}

-- there is a file at the place, and it is a directory or not, as this flag says
pub record IsOfKind (files : Files) (place : FilePlace) (directory : Bool) : Type 0 where
  pub file : DiskFile
  pub there : file_in files place ≡ Some file
  pub kind : is_directory file ≡ directory

-- the target of a path with this mode exists, and is a directory or not, as the target says. A path on a directory may
-- not be written; terminals and pipes are not files
abbrev pub IsOnTarget : Files → ℕ → Target → Type 0
IsOnTarget files mode (File drive number) = IsOfKind files (record { drive = drive; number = number }) false
IsOnTarget files mode (Folder drive number) =
    IsOfKind files (record { drive = drive; number = number }) true × (can_write mode ≡ false)
IsOnTarget files mode (Term terminal) = Unit {0}
IsOnTarget files mode (Pipe pipe) = Unit {0}

-- the same for a path by its descriptor
abbrev pub IsOnItsKind : Files → Desc → Type 0
IsOnItsKind files desc = IsOnTarget files desc.mode desc.target

-- each path is on what it was opened on, and each directory of a process, for data and for execution, is a directory.
-- The clusters of each mounted volume have sectors: without that a new file could take the number of another
pub record AreKinds (files : Files) : Type 0 where
  pub paths : (s : ℕ) (desc : Desc) → desc_of files.io.paths s ≡ Some desc → IsOnItsKind files desc
  pub directories : (p : ℕ) (execute : Bool) (place : FilePlace) → directory_of files p execute ≡ Some place
      → IsOfKind files place true
  pub clusters : (drive : ℕ) (v : DiskVolume) → volume_at files drive ≡ Some v → 0 < cluster_size v
