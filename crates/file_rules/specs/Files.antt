-- The state that the calls on files read and change (Level Two manual, "I/O system"; OS-9 Technical Reference, Random
-- Block File Manager): the state of paths, terminals and pipes, the directories of each process, and the drives.
use Rattle.std.specs.Prelude.{◌≡◌, ◌≢◌, ℕ, ◌≤◌, Bool, Option, Some, None, option_map, option_and_then, List, length, slice_index_or, slice_set, if◌then◌else◌}
use Rattle.os9_base.specs.Count.{Rose}
use Rattle.os9_base.specs.declared.registers.TimePacket.{TimePacket}
use Rattle.os9_outer.specs.Drive.{drive_error}
use Rattle.os9_outer.specs.declared.drive.DriveFault.{DriveFault}
use Rattle.io_model.specs.Path.{PathTable, with_desc}
use Rattle.io_model.specs.declared.path.Target.{Target}
use Rattle.io_model.specs.declared.path.Target.TheVariants.{File, Folder, Term, Pipe}
use Rattle.lock_model.specs.Records.{Records}
use Rattle.rbf_model.specs.File.{DiskFile, is_directory}
use Rattle.rbf_model.specs.Volume.{DiskVolume}
use Rattle.io_model.specs.Io.{Io, OpenPath, open_path, with_paths}
use Rattle.io_model.specs.Step.{Caller}
use Rattle.file_rules.specs.declared.places.Directories.{Directories}
use Rattle.lock_model.specs.declared.place.FilePlace.{FilePlace}

-- a drive: its number of faults, and its last fault
pub record DriveState : Type 0 where
  pub faults : ℕ
  pub last : Option DriveFault

pub record Files : Type 0 where
  pub io : Io
  pub directories : List Directories  -- by process, from 0 to 32
  pub volumes : List (Option DiskVolume)  -- of D0, D1, D2, D3: the mounted volume
  pub drives : List DriveState  -- D0, D1, D2, D3
  pub records : Records  -- locks of paths, requests of waiting calls, and their history

-- the process that calls, its user, the time and the tick
pub record Asker : Type 0 where
  pub caller : Caller
  pub user : ℕ
  pub now : TimePacket
  pub tick : ℕ

-- ---- directories of processes

abbrev pub no_directories : Directories
no_directories = record { data_directory = None; execution_directory = None }

abbrev pub directories_at : Files → ℕ → Directories
directories_at files p = slice_index_or files.directories p no_directories

-- the directory of a process at which its path lists start, for execution or not
abbrev pub directory_of : Files → ℕ → Bool → Option FilePlace
directory_of files p execute =
    if execute then (directories_at files p).execution_directory else (directories_at files p).data_directory

-- the directories with another one for execution, or for data
abbrev pub with_directory : Directories → Bool → FilePlace → Directories
with_directory directories execute place =
    if execute then record directories { execution_directory = Some place }
    else record directories { data_directory = Some place }

-- ---- volumes and their files

abbrev pub volume_at : Files → ℕ → Option DiskVolume
volume_at files drive = slice_index_or files.volumes drive None

-- the files of a drive by their numbers; none without a volume
abbrev pub files_on : Files → ℕ → ℕ → Option DiskFile
files_on files drive n = option_and_then (λ v. v.files n) (volume_at files drive)

abbrev pub file_in : Files → FilePlace → Option DiskFile
file_in files place = files_on files place.drive place.number

-- the target of a path on this file at this place
abbrev pub target_on : DiskFile → FilePlace → Target
target_on file place = if is_directory file then Folder place.drive place.number else File place.drive place.number

-- the place of the file that a target names, if the target is a file or a directory
abbrev pub place_of_target : Target → Option FilePlace
place_of_target (File drive number) = Some (record { drive = drive; number = number })
place_of_target (Folder drive number) = Some (record { drive = drive; number = number })
place_of_target (Term terminal) = None
place_of_target (Pipe pipe) = None

-- a path on a file or a directory: the path, the place of the file, its volume and the file
pub record OpenFile : Type 0 where
  pub opened : OpenPath
  pub place : FilePlace
  pub volume : DiskVolume
  pub file : DiskFile

-- the file of a path at a place
abbrev pub open_file_at : Files → OpenPath → FilePlace → Option OpenFile
open_file_at files opened place =
    option_and_then (λ v. option_map (λ file. record { opened = opened; place = place; volume = v; file = file })
    (v.files place.number)) (volume_at files place.drive)

-- the file or directory that a number of a process names, if any
abbrev pub open_file : Files → ℕ → ℕ → Option OpenFile
open_file files p n =
    option_and_then (λ opened. option_and_then (open_file_at files opened) (place_of_target opened.desc.target))
    (open_path files.io p n)

-- ---- the state with one part replaced

abbrev pub with_io : Files → Io → Files
with_io files io = record files { io = io }

abbrev pub with_path_table : Files → PathTable → Files
with_path_table files paths = with_io files (with_paths files.io paths)

-- with another position of a path
abbrev pub with_position : Files → OpenPath → ℕ → Files
with_position files opened at =
    with_path_table files (with_desc files.io.paths opened.path.0 (Some (record opened.desc { at = at })))

-- with another number of ticks that the requests of a path wait
abbrev pub with_ticks : Files → OpenPath → ℕ → Files
with_ticks files opened ticks =
    with_path_table files (with_desc files.io.paths opened.path.0 (Some (record opened.desc { ticks = ticks })))

abbrev pub with_directories_of : Files → ℕ → Directories → Files
with_directories_of files p directories =
    record files { directories = slice_set files.directories p directories }

-- with another volume in a drive that has one
abbrev pub with_volume : Files → ℕ → DiskVolume → Files
with_volume files drive volume = record files { volumes = slice_set files.volumes drive (Some volume) }

abbrev pub with_records : Files → Records → Files
with_records files records = record files { records = records }

abbrev pub with_drives : Files → List DriveState → Files
with_drives files drives = record files { drives = drives }

-- ---- the number of faults of the drives

abbrev pub new_drive : DriveState
new_drive = record { faults = 0; last = None }

abbrev pub drive_at : List DriveState → ℕ → DriveState
drive_at drives n = slice_index_or drives n new_drive

-- no drive failed: each count and each last fault is unchanged
abbrev pub KeepsDriveFaults : List DriveState → List DriveState → Type 0
KeepsDriveFaults before now = now ≡ before

-- only this drive failed: its count rose, and the error of its last fault is this number
pub record OneFailed (drive number : ℕ) (before now : List DriveState) : Type 0 where
  pub rose : Rose (drive_at before drive).faults (drive_at now drive).faults
  pub never_falls : (drive_at before drive).faults ≤ (drive_at now drive).faults
  pub last : option_map drive_error (drive_at now drive).last ≡ Some number
  pub others : (other : ℕ) → other ≢ drive → drive_at now other ≡ drive_at before other
  pub as_many : length now ≡ length before
