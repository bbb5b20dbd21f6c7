-- What is in memory of a mounted volume, and when it is that of the media.
use Rattle.std.specs.Prelude.{◌≡◌, ℕ, ◌*◌, ◌/◌, ◌<◌, ◌==◌, List, length}
use Rattle.rbf_model.specs.Geometry.{Geometry, image_geometry, sector, map_sectors}
use Rattle.rbf_model.specs.Space.{is_marked, cluster_count}
use Rattle.rbf_model.specs.ClusterMap.{ClusterMap, mark}

-- the sizes and the root that sector 0 gives, and the map
pub record MountedPart : Type 0 where
  pub sizes : Geometry
  pub map : ClusterMap

-- the map is that of an image: all bits of its sectors, those past the last cluster too
pub record AgreesOnMap (map : ClusterMap) (image : List ℕ) : Type 0 where
  pub clusters_are : map.clusters ≡ cluster_count (image_geometry image)
  pub whole_are : map.whole ≡ (image_geometry image).total / (image_geometry image).cluster
  pub sectors : length map.bytes ≡ 256 * map_sectors (image_geometry image)
  pub marks : (c : ℕ) → c < 8 * length map.bytes → is_marked (sector image) c ≡ (mark map.bytes c == 1)

-- the mounted part is that of an image
pub record Agrees (kept : MountedPart) (image : List ℕ) : Type 0 where
  pub sizes_are : kept.sizes ≡ image_geometry image
  pub map : AgreesOnMap kept.map image
