-- The image of a volume at the start of a run, and its image at the end.
use Rattle.std.specs.Prelude.{◌≡◌, ℕ, ◌*◌, List, drop, length}
use Rattle.rbf_model.specs.Geometry.{image_geometry, sector}
use Rattle.rbf_model.specs.Volume.{DiskVolume, Vol}

-- the image that represents the volume at the end of a run has the length of the image at its start, its first sector,
-- which names the boot file, and its bytes after the volume, which no call accesses (OS-9 Technical Reference,
-- "Identification Sector")
pub record IsWrittenBack (old new : List ℕ) (v : DiskVolume) : Type 0 where
  pub as_long : length new ≡ length old
  pub first_kept : sector new 0 ≡ sector old 0
  pub rest_kept : drop (256 * (image_geometry old).total) new ≡ drop (256 * (image_geometry old).total) old
  pub volume : Vol new v
