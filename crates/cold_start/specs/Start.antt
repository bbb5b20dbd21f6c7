-- The volumes of a machine at its start, and the directories of its first process (Level Two manual, "Booting"; the
-- choice of mounted volumes and of directories is this project's own).
use Rattle.std.specs.Prelude.{◌≡◌, ℕ, ◌+◌, ◌<◌, ◌≤◌, ◌==◌, nat_lt, Option, Some, None, List, [], length, replicate, slice_get, OnOk, Result, Ok, Err, if◌then◌else◌}
use Rattle.std.specs.Option.{option_map_or}
use Rattle.rbf_model.specs.File.{DiskFile, is_directory}
use Rattle.rbf_model.specs.Volume.{DiskVolume}
use Rattle.rbf_model.specs.Walk.{look_up}
use Rattle.rbf_change.specs.Calls.{shape}
use Rattle.rbf_change.specs.Contents.{sector_count}
use Rattle.rbf_access.specs.Mounted.{media_calls}
use Rattle.rbf_access.specs.declared.volume.Volume.{Volume}
use Rattle.rbf_walk.specs.Search.{IsNameFoundAt}
use Rattle.file_rules.specs.Files.{Files, DriveState, KeepsDriveFaults, OneFailed, no_directories, volume_at, with_directories_of, with_drives, with_volume}
use Rattle.file_rules.specs.Processes.{StartsWithImages, directories_on, first_files}
use Rattle.file_rules.specs.Route.{root_of}
use Rattle.lock_model.specs.declared.place.FilePlace.{FilePlace}
use Rattle.file_drives.specs.Drives.{DriveView, drive_states, media_at}
use Rattle.file_drives.specs.Mounted.{AreMounted, DriveHolds, mounted_at}
use Rattle.file_state.specs.Counted.{calls_at}
use Rattle.file_state.specs.Tie.{RepresentsFiles}
use Rattle.file_state.specs.declared.state.FileState.{FileState}
use Rattle.cold_start.specs.declared.fault.StartFault.{StartFault}
use Rattle.cold_start.specs.declared.fault.StartFault.TheVariants.{OutOfMemory, Drive}

-- ---- what is in the drives

-- the media of the first drives represent these volumes
pub record HoldVolumes (volumes : List DiskVolume) (views : List DriveView) : Type 0 where
  pub each : (n : ℕ) (v : DiskVolume) → slice_get volumes n ≡ Some v → DriveHolds views n v

-- the media of each of the first `drives` drives represents a volume
pub record HaveVolumes (drives : ℕ) (views : List DriveView) : Type 0 where
  pub volumes : List DiskVolume
  pub as_many : length volumes ≡ drives
  pub hold : HoldVolumes volumes views

-- these images are in the first `drives` drives
pub record HaveImages (drives : ℕ) (images : List (List ℕ)) (views : List DriveView) : Type 0 where
  pub as_many : length images ≡ drives
  pub each : (n : ℕ) (image : List ℕ) → slice_get images n ≡ Some image → media_at views n ≡ Some image

-- ---- the state

-- these volumes are mounted in the first drives, and no process has a directory
abbrev pub mounted_files : List DiskVolume → List DriveState → Files
mounted_files volumes drives = record (first_files volumes drives) { directories = replicate 33 no_directories }

-- the state represents those files
abbrev pub HasMounted : List DiskVolume → FileState → List DriveView → Type 0
HasMounted volumes state views = RepresentsFiles state views (mounted_files volumes (drive_states views))

-- the same with the directories of the first process
abbrev pub RepresentsFirstFiles : List DiskVolume → FileState → List DriveView → Type 0
RepresentsFirstFiles volumes state views = RepresentsFiles state views (first_files volumes (drive_states views))

-- the state represents that of a machine at its start with these images
pub record StartedOn (images : List (List ℕ)) (state : FileState) (views : List DriveView) : Type 0 where
  pub was : Files
  pub starts : StartsWithImages images (drive_states views) was
  pub stands : RepresentsFiles state views was

-- volumes are mounted in the first drives, and no process has a directory yet
pub record AreFirst (state : FileState) (views : List DriveView) : Type 0 where
  pub volumes : List DiskVolume
  pub mounted : HasMounted volumes state views

-- the volume in the drive of this number is mounted there
abbrev pub MountsVolume : ℕ → FileState → List DriveView → FileState → List DriveView → Type 0
MountsVolume n old before new after =
    (files : Files) (v : DiskVolume) → RepresentsFiles old before files → DriveHolds before n v
    → RepresentsFiles new after (with_drives (with_volume files n v) (drive_states after))

-- the place is the root directory of the volume that is mounted on its drive
pub record IsRootAt (disks : List (Option Volume)) (views : List DriveView) (root : FilePlace) : Type 0 where
  pub volumes : List (Option DiskVolume)
  pub mounted : AreMounted disks views volumes
  pub volume : DiskVolume
  pub is : mounted_at volumes root.drive ≡ Some volume
  pub each : (volumes : List (Option DiskVolume)) (v : DiskVolume) → AreMounted disks views volumes
      → mounted_at volumes root.drive ≡ Some v → root ≡ root_of root.drive v

-- a fact of the volume of a place
abbrev pub OnVolumeOf : List (Option Volume) → List DriveView → FilePlace → (DiskVolume → Type 0) → Type 0
OnVolumeOf disks views place fact =
    (volumes : List (Option DiskVolume)) (v : DiskVolume) → AreMounted disks views volumes
    → mounted_at volumes place.drive ≡ Some v → fact v

-- a fact of the files and of the volume of D0
abbrev pub OnFirst : FileState → List DriveView → (Files → DiskVolume → Type 0) → Type 0
OnFirst state views fact =
    (files : Files) (v : DiskVolume) → RepresentsFiles state views files → volume_at files 0 ≡ Some v → fact files v

-- the files with the first process's directories on this volume of D0, and with these drives after reads
abbrev pub given : Files → DiskVolume → List DriveView → Files
given files v views = with_drives (with_directories_of files 2 (directories_on v)) (drive_states views)

-- the place, if the file there is a directory
abbrev pub directory_at : FilePlace → DiskFile → Option FilePlace
directory_at place file = if is_directory file then Some place else None

-- the descriptor of the entry with a name, if these bytes of a directory have one
abbrev pub IsNamedDescriptor : List ℕ → List ℕ → Option ℕ → Type 0
IsNamedDescriptor contents name None = look_up contents name ≡ None
IsNamedDescriptor contents name (Some n) = (place : ℕ) × IsNameFoundAt contents name place n

-- ---- faults

-- the number of the drive's fault that ended the step, if one did
abbrev pub start_fault : {A : Type 0} → Result A StartFault → Option ℕ
start_fault (Ok a) = None
start_fault (Err OutOfMemory) = None
start_fault (Err (Drive drive number)) = Some number

-- a drive fault that ended the step was one of this drive
abbrev pub IsFaultOfDrive : {A : Type 0} → ℕ → Result A StartFault → Type 0
IsFaultOfDrive n (Ok a) = Unit {0}
IsFaultOfDrive n (Err OutOfMemory) = Unit {0}
IsFaultOfDrive n (Err (Drive drive number)) = drive ≡ n

-- the same for one of the first `drives` drives
abbrev pub FailsAmong : {A : Type 0} → ℕ → Result A StartFault → Type 0
FailsAmong drives (Ok a) = Unit {0}
FailsAmong drives (Err OutOfMemory) = Unit {0}
FailsAmong drives (Err (Drive drive number)) = drive < drives

-- the drives after the step: none failed, or only the named one, and its last fault has this number
abbrev pub StartMoves : {A : Type 0} → Result A StartFault → List DriveView → List DriveView → Type 0
StartMoves (Ok a) before now = KeepsDriveFaults (drive_states before) (drive_states now)
StartMoves (Err OutOfMemory) before now = KeepsDriveFaults (drive_states before) (drive_states now)
StartMoves (Err (Drive drive number)) before now = OneFailed drive number (drive_states before) (drive_states now)

-- ---- calls of the drives

-- the drives were only read, each at most `most` times
pub record ReadUpTo (most : ℕ → ℕ) (before after : List DriveView) : Type 0 where
  pub as_many : length after ≡ length before
  pub media : (n : ℕ) → media_at after n ≡ media_at before n
  pub calls : (n : ℕ) → calls_at after n ≤ calls_at before n + most n

-- `most` calls of one drive, and none of any other
abbrev pub only_drive : ℕ → ℕ → ℕ → ℕ
only_drive drive most n = if n == drive then most else 0

-- to mount the volumes of the first `drives` drives
abbrev pub mounts_calls : ℕ → List DriveView → ℕ → ℕ
mounts_calls drives views n = if nat_lt n drives then media_calls (media_at views n) else 0

-- to look for CMDS in a root: two descriptors, the directory's sectors, and one more call
abbrev pub search_calls : DiskFile → ℕ
search_calls root = 3 + sector_count (length root.contents)

-- to give the first process its directories, on this volume of D0
abbrev pub root_calls : Option DiskVolume → ℕ
root_calls volume = option_map_or (λ v. option_map_or search_calls (v.files (shape v).root) 0) volume 0

-- at a start with these volumes
abbrev pub start_calls : List DiskVolume → List DriveView → ℕ → ℕ
start_calls volumes views n =
    mounts_calls (length volumes) views n + only_drive 0 (root_calls (slice_get volumes 0)) n

-- the effect on the drives of a start with the first `drives` drives, by its result
pub record StartsDrives {A : Type 0} (drives : ℕ) (result : Result A StartFault) (before after : List DriveView)
    : Type 0 where
  pub moves : StartMoves result before after
  pub among : FailsAmong drives result
  pub media : (n : ℕ) → media_at after n ≡ media_at before n
  pub reads : (volumes : List DiskVolume) → length volumes ≡ drives → HoldVolumes volumes before
      → ReadUpTo (start_calls volumes before) before after

-- ---- the steps of a start, each with the state and the drives before it and after it

-- the volume in the drive of this number is mounted, unless the step failed
pub record MountsOne (n : ℕ) (result : Result (Unit {0}) StartFault) (old new : FileState)
    (before after : List DriveView) : Type 0 where
  pub mounted : OnOk result (MountsVolume n old before new after)
  pub read : ReadUpTo (only_drive n (media_calls (media_at before n))) before after
  pub moves : StartMoves result before after
  pub fails : IsFaultOfDrive n result

-- the volumes of the first `drives` drives are mounted, unless the step failed
pub record MountsFirst (drives : ℕ) (result : Result (Unit {0}) StartFault) (old new : FileState)
    (before after : List DriveView) : Type 0 where
  pub mounted : (volumes : List DiskVolume) → length volumes ≡ drives → HoldVolumes volumes before
      → HasMounted [] old before → OnOk result (HasMounted volumes new after)
  pub read : ReadUpTo (mounts_calls drives before) before after
  pub moves : StartMoves result before after
  pub among : FailsAmong drives result

-- unless the step failed, the first process has its directories: on the volume of D0, if one is mounted there
pub record GivesDirectories (result : Result (Unit {0}) StartFault) (old new : FileState)
    (before after : List DriveView) : Type 0 where
  pub stands : (volumes : List DiskVolume) → HasMounted volumes old before
      → OnOk result (RepresentsFirstFiles volumes new after)
  pub read : (volumes : List DiskVolume) → HasMounted volumes old before
      → ReadUpTo (only_drive 0 (root_calls (slice_get volumes 0))) before after
  pub moves : StartMoves result before after
  pub among : (volumes : List DiskVolume) → HasMounted volumes old before → FailsAmong (length volumes) result

-- the same if a volume is mounted on D0
pub record GivesRoot (result : Result (Unit {0}) StartFault) (old new : FileState) (before after : List DriveView)
    : Type 0 where
  pub stands : OnFirst old before (λ files v. OnOk result (RepresentsFiles new after (given files v after)))
  pub read : OnFirst old before (λ files v. ReadUpTo (only_drive 0 (root_calls (Some v))) before after)
  pub moves : StartMoves result before after
  pub fails : IsFaultOfDrive 0 result
