-- The descriptors and directories that are read from an identified image.
use Rattle.std.specs.Prelude.{◌≡◌, ℕ, ◌*◌, ◌<◌, ◌==◌, ◌&&◌, Bool, List, length}
use Rattle.std.specs.List.{list_all}
use Rattle.std.specs.Int.{bit_at}
use Rattle.rbf_model.specs.Disk.{Disk, disk_of}
use Rattle.rbf_model.specs.Fields.{segments_field}
use Rattle.rbf_model.specs.Geometry.{Geometry, is_within, sector}
use Rattle.rbf_model.specs.File.{has_room, is_directory_size}
use Rattle.rbf_model.specs.Search.{searchable_bytes}
use Rattle.rbf_sector.specs.Ident.{geometry_of}
use Rattle.rbf_sector.specs.declared.fd.Fd.{Fd}
use Rattle.rbf_sector_rules.specs.declared.directory.Directory.{Directory}
use Rattle.rbf_sector_rules.specs.declared.image.IdentifiedImage.{IdentifiedImage}

-- the disk of an identified image
abbrev pub disk_on : IdentifiedImage → Disk
disk_on image = disk_of (geometry_of image.ident) (sector image.bytes.now)

-- the bytes of a searchable directory, and no bytes for any other descriptor
abbrev pub listed : IdentifiedImage → ℕ → List ℕ
listed image n = searchable_bytes (disk_on image) n

-- a descriptor's segments, and the number of its entries for the rules
pub record IsDirectory (image : IdentifiedImage) (dir : Directory) : Type 0 where
  pub number : dir.number < image.ident.total
  pub segments : dir.segs ≡ segments_field (sector image.bytes.now dir.number)
  pub entries : 32 * dir.entries ≡ length (listed image dir.number)

-- a descriptor of a searchable directory
abbrev pub is_searchable_descriptor : Geometry → Fd → Bool
is_searchable_descriptor g fd =
    (bit_at fd.attr 7 == 1) && list_all (is_within g) fd.segs && has_room fd.segs fd.size && is_directory_size fd.size
