-- What is read of the first sectors of an image: its header, and the marks of its map.
use Rattle.std.proofs.Common.{◌≡◌, ℕ, ◌+◌, ◌-◌, ◌/◌, ◌%◌, ◌==◌, List, get_or, sym, ap, subst}
use Rattle.std.specs.Int.{bit_at}
use Rattle.rbf_model.specs.Disk.{disk_of, IsDisk}
use Rattle.rbf_model.specs.Geometry.{Geometry, sector, IsHeader}
use Rattle.rbf_model.specs.Space.{is_marked}
use Rattle.rbf_model.proofs.Images.{is_disk}
use Rattle.rbf_model.proofs.SectorBytes.{map_byte_is}
use Rattle.rbf_sector.specs.Ident.{geometry_of}
use Rattle.rbf_sector_rules.specs.declared.image.IdentifiedImage.{IdentifiedImage}

-- a mark is a bit of the image
pub mark_is : (image : List ℕ) (c : ℕ) → (bit_at (get_or image (256 + c / 8) 0) (7 - c % 8) == 1) ≡ is_marked (sector image) c
unfolding is_marked
mark_is image c = ap (λ b. bit_at b (7 - c % 8) == 1) (sym (map_byte_is image (c / 8)))

-- the geometry that is read is that of a volume that this project takes
pub header_of : (image : IdentifiedImage) → IsHeader (geometry_of image.ident)
header_of image =
    let P : Geometry → Type 0 = λ g. IsHeader g in subst P image.identified.geometry image.identified.header.header

-- and the sectors of that volume are all in the image
pub is_disk_of : (image : IdentifiedImage) → IsDisk (disk_of (geometry_of image.ident) (sector image.bytes.now))
is_disk_of image =
    let P : Geometry → Type 0 = λ g. IsDisk (disk_of g (sector image.bytes.now)) in subst P image.identified.geometry (is_disk image.bytes.now image.identified.header)
