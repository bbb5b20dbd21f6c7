-- The numbers of descriptors that are found.
use Rattle.std.proofs.Common.{ℕ, ◌<◌, List, length, get_or}
use Rattle.rbf_model.specs.Disk.{disk_of}
use Rattle.rbf_model.specs.Geometry.{Geometry, sector, IsNumber}
use Rattle.rbf_model.specs.Search.{IsListOfReached, IsReachedOn, searchable_bytes}
use Rattle.rbf_model.proofs.Bytes.{has_place}
use Rattle.rbf_model.proofs.Keeps.{number_of_reached}
use Rattle.rbf_sector.specs.Ident.{geometry_of}
use Rattle.rbf_sector_rules.specs.declared.image.IdentifiedImage.{IdentifiedImage}
use Rattle.rbf_sector_rules.proofs.Headers.{header_of}

-- a number that is reached is one of the volume
pub number_reached : (image : IdentifiedImage) → (n : ℕ) → IsReachedOn (disk_of (geometry_of image.ident) (sector image.bytes.now)) n → IsNumber (geometry_of image.ident) n
number_reached image n reached =
    number_of_reached (geometry_of image.ident) (searchable_bytes (disk_of (geometry_of image.ident) (sector image.bytes.now))) (header_of image) reached

-- a number that is found is reached
pub reached_found : (g : Geometry) (disk : ℕ → List ℕ) (found : List ℕ) (i : ℕ) → IsListOfReached (disk_of g disk) found → i < length found → IsReachedOn (disk_of g disk) (get_or found i 0)
reached_found g disk found i is low = (is (get_or found i 0)).0 (has_place found i low)

-- and so is below the total
pub number_found : (image : IdentifiedImage) (found : List ℕ) (i : ℕ)
    → IsListOfReached (disk_of (geometry_of image.ident) (sector image.bytes.now)) found → i < length found
    → get_or found i 0 < image.ident.total
number_found image found i is low =
    (number_reached image (get_or found i 0) (reached_found (geometry_of image.ident) (sector image.bytes.now) found i is low)).below
