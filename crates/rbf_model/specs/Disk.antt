-- A disk: its geometry, which sector 0 gives, and its sectors.
use Rattle.std.specs.Prelude.{◌≡◌, ℕ, ◌<◌, List, length}
use Rattle.rbf_model.specs.Geometry.{Geometry, image_geometry, sector}

-- the geometry of a volume, and the bytes of each of its sectors by its number, the LSN
pub record Disk : Type 0 where
  pub geometry : Geometry
  pub sectors : ℕ → List ℕ

-- the disk with this geometry and these sectors
abbrev pub disk_of : Geometry → (ℕ → List ℕ) → Disk
disk_of g sectors = record { geometry = g; sectors = sectors }

-- the disk of an image
abbrev pub image_disk : List ℕ → Disk
image_disk image = disk_of (image_geometry image) (sector image)

-- every sector of the volume has 256 bytes
abbrev pub IsDisk : Disk → Type 0
IsDisk disk = (n : ℕ) → n < disk.geometry.total → length (disk.sectors n) ≡ 256
