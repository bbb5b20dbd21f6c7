-- An image that holds the volume that its identification sector describes.
use Rattle.std.specs.Prelude.{◌≡◌, ℕ, List}
use Rattle.rbf_model.specs.Geometry.{geometry, HasHeader, sector}
use Rattle.rbf_sector.specs.Ident.{geometry_of}
use Rattle.rbf_sector.specs.declared.ident.Ident.{Ident}

-- the identification of an image that holds the volume it describes
pub record IsIdent (image : List ℕ) (ident : Ident) : Type 0 where
  pub header : HasHeader image
  pub geometry : geometry (sector image 0) ≡ geometry_of ident
