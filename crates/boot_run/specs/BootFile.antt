-- Images that represent volumes, and the boot file of the first (Level Two manual, "Booting"; OS-9 Technical Reference,
-- Random Block File Manager, "Identification Sector").
use Rattle.std.specs.Prelude.{◌≡◌, ◌≢◌, ℕ, ◌+◌, ◌*◌, ◌≤◌, ⊤, Some, List, take, drop, slice_get, All}
use Rattle.rbf_check.specs.declared.faults.CheckFault.{CheckFault}
use Rattle.rbf_model.specs.Fields.{boot_field, boot_size_field}
use Rattle.rbf_model.specs.Faults.{IsFault}
use Rattle.rbf_model.specs.Geometry.{image_geometry, sector}
use Rattle.rbf_model.specs.Volume.{DiskVolume, Vol}
use Rattle.boot_run.specs.declared.boot_file.BootFileFault.{BootFileFault}
use Rattle.boot_run.specs.declared.boot_file.BootFileFault.TheVariants.{Bounds, OutOfMemory}

-- the image represents a volume
abbrev pub IsVolume : List ℕ → Type 0
IsVolume image = (v : DiskVolume) × Vol image v

-- the image of this number is the first of these images that does not represent a volume, and this is its fault
pub record IsFirstFault (images : List (List ℕ)) (number : ℕ) (fault : CheckFault) : Type 0 where
  pub image : List ℕ
  pub is : slice_get images number ≡ Some image
  pub others : All IsVolume (take number images)
  pub broken : IsFault image fault.rule fault.lsn

-- LSN 0 names a boot file, by its first sector (DD.BT) and its size in bytes (DD.BSZ), and its last byte lies within
-- the volume
pub record HasBootFile (image : List ℕ) : Type 0 where
  pub placed : boot_field (sector image 0) ≢ 0
  pub some : boot_size_field (sector image 0) ≢ 0
  pub within : 256 * boot_field (sector image 0) + boot_size_field (sector image 0)
      ≤ 256 * (image_geometry image).total

-- its bytes
abbrev pub boot_file_of : List ℕ → List ℕ
boot_file_of image = take (boot_size_field (sector image 0)) (drop (256 * boot_field (sector image 0)) image)

-- the boot file of the first image
pub record IsBootFile (images : List (List ℕ)) (file : List ℕ) : Type 0 where
  pub image : List ℕ
  pub first : slice_get images 0 ≡ Some image
  pub has : HasBootFile image
  pub is : file ≡ boot_file_of image

-- the first image has no boot file; or memory was out
abbrev pub LacksBootFile : List (List ℕ) → BootFileFault → Type 0
LacksBootFile images Bounds = (image : List ℕ) × (slice_get images 0 ≡ Some image) × ¬ HasBootFile image
LacksBootFile images OutOfMemory = ⊤
