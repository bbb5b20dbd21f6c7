-- All fields of a descriptor.
use Rattle.std.specs.Prelude.{◌≡◌, ℕ, List}
use Rattle.rbf_model.specs.Fields.{attributes_field, owner_field, modified_field, links_field, size_field, created_field, segments_field}
use Rattle.rbf_sector.specs.declared.fd.Fd.{Fd}

-- the descriptor has these fields
pub record IsReadAs (file : Fd) (bytes : List ℕ) : Type 0 where
  pub attributes_are : attributes_field bytes ≡ file.attr
  pub owner_is : owner_field bytes ≡ file.owner
  pub modified_is : modified_field bytes ≡ file.modified
  pub links_are : links_field bytes ≡ file.links
  pub size_is : size_field bytes ≡ file.size
  pub created_is : created_field bytes ≡ file.created
  pub segments_are : segments_field bytes ≡ file.segs
