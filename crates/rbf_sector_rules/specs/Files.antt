-- The files that are found on an image, each with its descriptor.
use Rattle.std.specs.Prelude.{◌≡◌, ℕ, ◌<◌, List, All, map}
use Rattle.rbf_model.specs.Fields.{attributes_field, owner_field, modified_field, links_field, size_field, created_field, segments_field}
use Rattle.rbf_model.specs.Geometry.{sector}
use Rattle.rbf_model.specs.Search.{IsListOfReached}
use Rattle.rbf_sector.specs.declared.fd.Fd.{Fd}
use Rattle.rbf_sector_rules.specs.declared.file.FoundFile.{FoundFile}
use Rattle.rbf_sector_rules.specs.declared.image.IdentifiedImage.{IdentifiedImage}
use Rattle.rbf_sector_rules.specs.Reading.{disk_on}

-- the descriptor in a sector
pub record IsFdIn (bytes : List ℕ) (fd : Fd) : Type 0 where
  pub attr : fd.attr ≡ attributes_field bytes
  pub owner : fd.owner ≡ owner_field bytes
  pub modified : fd.modified ≡ modified_field bytes
  pub links : fd.links ≡ links_field bytes
  pub size : fd.size ≡ size_field bytes
  pub created : fd.created ≡ created_field bytes
  pub segs : fd.segs ≡ segments_field bytes

-- a file of the image: a number of its volume, and the descriptor in that sector
pub record IsFileOn (image : IdentifiedImage) (file : FoundFile) : Type 0 where
  pub number : file.number < image.ident.total
  pub fd : IsFdIn (sector image.bytes.now file.number) file.fd

-- the numbers of files
abbrev pub found_numbers : List FoundFile → List ℕ
found_numbers files = map (λ file. file.number) files

-- the files are the reached ones, each with its descriptor
pub record AreFiles (image : IdentifiedImage) (files : List FoundFile) : Type 0 where
  pub found : IsListOfReached (disk_on image) (found_numbers files)
  pub read : All (IsFileOn image) files
