-- The lost clusters of an image.
use Rattle.std.specs.Prelude.{◌≡◌, ℕ, List}
use Rattle.rbf_model.specs.Geometry.{image_geometry}
use Rattle.rbf_model.specs.Volume.{DiskVolume, Vol, lost_clusters}

-- the image represents a volume, and these are its lost clusters
pub record IsLostOf (image list : List ℕ) : Type 0 where
  pub volume : DiskVolume
  pub represents : Vol image volume
  pub are : list ≡ lost_clusters (image_geometry image) volume
