-- The beginnings and ends of processes, for files (System Programmer's Manual, F$Fork and F$Exit), and the first
-- process (Level Two manual, "Booting"; its directories are this project's own).
use Rattle.std.specs.Prelude.{◌≡◌, ℕ, ◌-◌, ◌==◌, Option, Some, None, option_and_then, List, ◌++◌, codes, length, map, replicate, slice_get, slice_set, if◌then◌else◌}
use Rattle.std.specs.List.{AllZip}
use Rattle.std.specs.Option.{option_map_or}
use Rattle.rbf_model.specs.File.{is_directory}
use Rattle.rbf_model.specs.Volume.{DiskVolume, Vol}
use Rattle.rbf_model.specs.Walk.{look_up}
use Rattle.io_model.specs.Io.{first_io}
use Rattle.io_model.specs.Processes.{io_started, io_ended}
use Rattle.file_rules.specs.Files.{Files, DriveState, no_directories, directories_at, with_io, with_directories_of, with_records}
use Rattle.file_rules.specs.Locking.{lock_ends}
use Rattle.lock_model.specs.Records.{no_records, with_waiting, ends_locks_below}
use Rattle.lock_model.specs.declared.lock.TheConstants.{PATH_PLACES}
use Rattle.file_rules.specs.Route.{root_of}
use Rattle.file_rules.specs.declared.places.Directories.{Directories}
use Rattle.lock_model.specs.declared.place.FilePlace.{FilePlace}

-- ---- beginnings and ends

-- a child gets its parent's directories, and images of its standard paths
abbrev pub files_started : Files → ℕ → ℕ → Files
files_started files parent child =
    with_directories_of (with_io files (io_started files.io parent child)) child (directories_at files parent)

-- the state after the end of a process: it has no directory any more, no path and no lock
abbrev pub io_left : Files → ℕ → Files
io_left files p = with_records (with_io files (io_ended files.io p)) (with_waiting files.records p None)

abbrev pub without_locks_of : Files → ℕ → Files
without_locks_of files p =
    with_records files (ends_locks_below (lock_ends files.io.paths (λ owner. owner == p)) PATH_PLACES files.records)

abbrev pub files_ended : Files → ℕ → Files
files_ended files p = with_directories_of (without_locks_of (io_left files p) p) p no_directories

-- ---- the start

-- the directory of this name in the root of a volume, if there is one
abbrev pub directory_in_root : DiskVolume → FilePlace → List ℕ → Option FilePlace
directory_in_root v root name =
    option_and_then (λ n. option_and_then (λ file.
    if is_directory file then Some (record { drive = root.drive; number = n }) else None) (v.files n))
    (option_and_then (λ file. look_up file.contents name) (v.files root.number))

-- the directories of the first process on the volume of D0: its root, and for execution CMDS in it, if it exists
abbrev pub directories_on : DiskVolume → Directories
directories_on v = record {
  data_directory = Some (root_of 0 v);
  execution_directory =
      option_map_or (λ place. Some place) (directory_in_root v (root_of 0 v) (codes "CMDS")) (Some (root_of 0 v));
}

-- none without such a volume
abbrev pub first_directories : Option DiskVolume → Directories
first_directories v = option_map_or directories_on v no_directories

-- the state at the start, with the first process, process 2: these volumes are mounted in the first drives
abbrev pub first_files : List DiskVolume → List DriveState → Files
first_files volumes drives = record {
  io = first_io;
  directories = slice_set (replicate 33 no_directories) 2 (first_directories (slice_get volumes 0));
  volumes = map (λ v. Some v) volumes ++ replicate (length drives - length volumes) None;
  drives = drives;
  records = no_records;
}

-- the state at the start of a machine with these images in its first drives
pub record StartsWithImages (images : List (List ℕ)) (drives : List DriveState) (files : Files) : Type 0 where
  pub volumes : List DiskVolume
  pub mounted : AllZip Vol images volumes
  pub is : files ≡ first_files volumes drives
