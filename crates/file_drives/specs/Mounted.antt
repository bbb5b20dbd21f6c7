-- The volumes mounted on the drives of a machine: the state kept for each drive agrees with its media, which represents
-- the volume (this project's own).
use Rattle.std.specs.Prelude.{◌≡◌, ℕ, ◌≤◌, false, Option, Some, None, List, Result, Ok, Err, IsErrOf, OnOk, length, slice_get, slice_index_or, slice_set}
use Rattle.rbf_model.specs.File.{DiskFile, is_directory}
use Rattle.rbf_model.specs.Volume.{DiskVolume}
use Rattle.rbf_change.specs.Agrees.{Agrees}
use Rattle.rbf_access.specs.Cached.{IsCacheOf}
use Rattle.rbf_access.specs.Faults.{volume_fault}
use Rattle.rbf_access.specs.Mounted.{HoldsVolume, RepresentsVolume, mounted_part, media_calls}
use Rattle.rbf_access.specs.declared.faults.VolFault.{VolFault}
use Rattle.rbf_access.specs.declared.faults.VolFault.TheVariants.{Device, NotRbf, OutOfMemory}
use Rattle.rbf_access.specs.declared.volume.Volume.{Volume}
use Rattle.rbf_walk.specs.declared.error.DirError.{DirError}
use Rattle.lock_model.specs.declared.place.FilePlace.{FilePlace}
use Rattle.file_drives.specs.Drives.{DriveView, OnlyReadsDrive, ReadsDrive}

-- the media represents this volume, and the kept state and the cache agree with the media
pub record IsMountedAs (volume : Volume) (media : Option (List ℕ)) (v : DiskVolume) : Type 0 where
  pub on : RepresentsVolume media v
  pub agrees : Agrees (mounted_part volume) on.image
  pub cached : IsCacheOf media volume.cache

-- the state kept for a drive agrees with the volume mounted there, or neither exists
abbrev pub AgreesOnDrive : Option Volume → DriveView → Option DiskVolume → Type 0
AgreesOnDrive None view None = Unit {0}
AgreesOnDrive None view (Some v) = ⊥
AgreesOnDrive (Some volume) view None = ⊥
AgreesOnDrive (Some volume) view (Some v) = IsMountedAs volume view.media v

-- the state kept for the drive of this number
abbrev pub disk_at : List (Option Volume) → ℕ → Option Volume
disk_at disks n = slice_index_or disks n None

-- the volume that is mounted on it
abbrev pub mounted_at : List (Option DiskVolume) → ℕ → Option DiskVolume
mounted_at volumes n = slice_index_or volumes n None

-- these volumes are mounted on the drives
pub record AreMounted (disks : List (Option Volume)) (views : List DriveView) (volumes : List (Option DiskVolume))
    : Type 0 where
  pub few : length views ≤ 4
  pub as_many : length volumes ≡ length views
  pub each : (n : ℕ) (view : DriveView) → slice_get views n ≡ Some view
      → AgreesOnDrive (disk_at disks n) view (mounted_at volumes n)
  -- nothing is kept for a drive that does not exist
  pub none_behind : (n : ℕ) → length views ≤ n → disk_at disks n ≡ None

-- each mounted volume is still mounted
abbrev pub StayMounted : List (Option Volume) → List DriveView → List (Option Volume) → List DriveView → Type 0
StayMounted disks before new after =
    (volumes : List (Option DiskVolume)) → AreMounted disks before volumes → AreMounted new after volumes

-- ---- files

-- there is a file at a place, on a volume that is mounted
pub record HasFileAt (disks : List (Option Volume)) (views : List DriveView) (place : FilePlace) : Type 0 where
  pub volumes : List (Option DiskVolume)
  pub mounted : AreMounted disks views volumes
  pub volume : DiskVolume
  pub is : mounted_at volumes place.drive ≡ Some volume
  pub file : DiskFile
  pub there : volume.files place.number ≡ Some file

-- and it is not a directory
pub record HasDataFileAt (disks : List (Option Volume)) (views : List DriveView) (place : FilePlace) : Type 0 where
  pub has : HasFileAt disks views place
  pub not_directory : is_directory has.file ≡ false

-- a fact of the volume and the file at a place, whichever volumes are mounted
abbrev pub OnDisks : List (Option Volume) → List DriveView → FilePlace → (DiskVolume → DiskFile → Type 0) → Type 0
OnDisks disks views place fact =
    (volumes : List (Option DiskVolume)) (v : DiskVolume) (file : DiskFile) → AreMounted disks views volumes
    → mounted_at volumes place.drive ≡ Some v → v.files place.number ≡ Some file → fact v file

-- the drive of a file is only read, at most the number of times given by the volume and the file, and each mounted
-- volume is still mounted
pub record ReadsFile (place : FilePlace) (fault : Option ℕ) (most : DiskVolume → DiskFile → ℕ)
    (disks : List (Option Volume)) (before : List DriveView) (new : List (Option Volume)) (after : List DriveView)
    : Type 0 where
  pub drive : OnDisks disks before place (λ v file. ReadsDrive fault (most v file) place.drive before after)
  pub mounted : StayMounted disks before new after

-- a file that was reached on a drive
pub record ArrivesOn (drive : ℕ) (disks : List (Option Volume)) (views : List DriveView) (place : FilePlace)
    : Type 0 where
  pub drive_is : place.drive ≡ drive
  pub file : HasFileAt disks views place

-- the number of the file at the end of a walk
abbrev pub number_arrived : Result FilePlace DirError → Result ℕ DirError
number_arrived (Ok place) = Ok place.number
number_arrived (Err error) = Err error

-- ---- mounting

-- the media of the drive of this number represents the volume
pub record DriveHolds (views : List DriveView) (n : ℕ) (v : DiskVolume) : Type 0 where
  pub view : DriveView
  pub is : slice_get views n ≡ Some view
  pub on : RepresentsVolume view.media v

-- the volume that the media represents is mounted there, and the others are unchanged
abbrev pub Mounts : ℕ → List (Option Volume) → List DriveView → List (Option Volume) → List DriveView → Type 0
Mounts n disks before new after =
    (volumes : List (Option DiskVolume)) (v : DiskVolume) → AreMounted disks before volumes → DriveHolds before n v
    → AreMounted new after (slice_set volumes n (Some v))

-- by the result: the volume is mounted, or each mounted volume is still mounted
abbrev pub MountsAs : Result (Unit {0}) VolFault → ℕ → List (Option Volume) → List DriveView → List (Option Volume)
    → List DriveView → Type 0
MountsAs (Ok done) n disks before new after = Mounts n disks before new after
MountsAs (Err fault) n disks before new after = StayMounted disks before new after

-- the greatest number of drive calls of an attempt to mount this media: one if it holds no volume
abbrev pub mounting_calls : Result (Unit {0}) VolFault → Option (List ℕ) → ℕ
mounting_calls (Ok done) media = media_calls media
mounting_calls (Err (Device number)) media = media_calls media
mounting_calls (Err NotRbf) media = 1
mounting_calls (Err OutOfMemory) media = media_calls media

-- the drive is read for an attempt to mount it, with this result
pub record ReadsToMount (result : Result (Unit {0}) VolFault) (old new : DriveView) : Type 0 where
  pub reads : OnlyReadsDrive (volume_fault result) (mounting_calls result old.media) old new
  -- it holds a volume
  pub holds : OnOk result (HoldsVolume old.media)
  -- it holds no volume
  pub not_rbf : IsErrOf result NotRbf → ¬ HoldsVolume old.media
