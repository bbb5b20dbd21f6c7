-- Files and directories that paths and processes name.
use Rattle.std.specs.Prelude.{◌≡◌, ℕ, Bool, true, false, Option, Some, None, IfSome, List, if◌then◌else◌}
use Rattle.io_model.specs.Path.{desc_of}
use Rattle.io_model.specs.declared.path.Desc.{Desc}
use Rattle.io_model.specs.declared.path.SysPath.{SysPath}
use Rattle.io_model.specs.declared.path.Target.{Target}
use Rattle.io_model.specs.declared.path.Target.TheVariants.{File, Folder, Term, Pipe}
use Rattle.rbf_model.specs.File.{is_directory}
use Rattle.io_model.specs.Io.{Io, OpenPath, open_path}
use Rattle.io_state.specs.Files.{IsOnDisk}
use Rattle.io_model.specs.Modes.{can_write}
use Rattle.file_rules.specs.Files.{Files, OpenFile as Found, file_in, open_file}
use Rattle.file_rules.specs.declared.places.Directories.{Directories}
use Rattle.lock_model.specs.declared.place.FilePlace.{FilePlace}
use Rattle.record_locks.specs.Places.{IsPath}
use Rattle.file_drives.specs.Drives.{DriveView}
use Rattle.file_drives.specs.Mounted.{HasDataFileAt, HasFileAt}
use Rattle.file_state.specs.declared.state.FileState.{FileState}
use Rattle.file_state.specs.declared.state.OpenFile.{OpenFile}

-- the path of an open file
abbrev pub path_of : OpenFile → OpenPath
path_of opened = record { path = opened.path; desc = opened.desc }

-- the descriptor is that of the system path, which has a place for a lock
pub record IsPathOf (io : Io) (opened : OpenFile) : Type 0 where
  pub desc : desc_of io.paths opened.path.0 ≡ Some opened.desc
  pub place : IsPath opened.path.0

-- a number of a process names no path on a file or a directory
abbrev pub NamesNoFile : Io → ℕ → ℕ → Type 0
NamesNoFile io p n = IfSome (open_path io p n) (λ opened. IsOnDisk opened.desc.target → ⊥)

-- a number of a process names this file or directory, which exists
pub record IsOpenFileOf (state : FileState) (views : List DriveView) (files : Files) (p n : ℕ) (opened : OpenFile) :
    Type 0
  where
    pub found : Found
    pub is : open_file files p n ≡ Some found
    pub path : found.opened ≡ path_of opened
    pub place : found.place ≡ opened.place
    pub directory : is_directory found.file ≡ opened.is_directory
    pub there : file_in files opened.place ≡ Some found.file
    pub has : HasFileAt state.disks views opened.place
    -- a path on a directory may not be written
    pub unwritten : opened.is_directory ≡ true → can_write opened.desc.mode ≡ false
    pub data_file : opened.is_directory ≡ false → HasDataFileAt state.disks views opened.place

-- by the result: the file or directory that a number of a process names, or it names none
abbrev pub NumberNamesFile : FileState → List DriveView → Files → ℕ → ℕ → Option OpenFile → Type 0
NumberNamesFile state views files p n None = open_file files p n ≡ None
NumberNamesFile state views files p n (Some opened) = IsOpenFileOf state views files p n opened

-- ---- by descriptors and directories

-- the file or directory of a path with this target
abbrev pub opened_by : SysPath → Desc → Target → Option OpenFile
opened_by path desc (File drive number) =
    Some (record { path = path; desc = desc; place = record { drive = drive; number = number }; is_directory = false })
opened_by path desc (Folder drive number) =
    Some (record { path = path; desc = desc; place = record { drive = drive; number = number }; is_directory = true })
opened_by path desc (Term terminal) = None
opened_by path desc (Pipe pipe) = None

-- the execution directory, or the data directory
abbrev pub directory_in : Directories → Bool → Option FilePlace
directory_in directories execute =
    if execute then directories.execution_directory else directories.data_directory
