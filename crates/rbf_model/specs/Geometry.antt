-- The description of the whole volume in sector 0.
use Rattle.std.specs.Prelude.{◌≡◌, ℕ, ◌+◌, ◌*◌, ◌/◌, ◌<◌, ◌≤◌, ◌==◌, ◌&&◌, ◌||◌, nat_le, Bool, true, List, length, take, drop, All}
use Rattle.rbf_model.specs.Fields.{total_field, map_bytes_field, cluster_field, root_field}

-- the size of the volume, of its map and of its clusters, and the sector of its root
pub record Geometry : Type 0 where
  pub total : ℕ
  pub map_bytes : ℕ
  pub cluster : ℕ
  pub root : ℕ

-- the geometry in an identification sector
abbrev pub geometry : List ℕ → Geometry
geometry ident =
    record {
      total = total_field ident;
      map_bytes = map_bytes_field ident;
      cluster = cluster_field ident;
      root = root_field ident;
    }

-- the sizes of clusters that this project accepts: the powers of two up to 64 sectors
abbrev pub is_cluster_size : ℕ → Bool
is_cluster_size k = (k == 1) || (k == 2) || (k == 4) || (k == 8) || (k == 16) || (k == 32) || (k == 64)

-- the number of sectors of the map, from LSN 1 on
abbrev pub map_sectors : Geometry → ℕ
map_sectors g = (g.map_bytes + 255) / 256

-- a volume that this project accepts, by its size, its clusters and its root
pub record IsHeader (g : Geometry) : Type 0 where
  pub least : 4 ≤ g.total
  pub most : g.total ≤ 524280
  pub clusters : is_cluster_size g.cluster ≡ true
  pub root_after : 1 ≤ g.root
  pub root_below : g.root < g.total

-- the map has a bit for each cluster and ends within the volume
pub record HasMap (g : Geometry) : Type 0 where
  pub bits : g.total ≤ 8 * g.map_bytes * g.cluster
  pub fits : 1 + map_sectors g ≤ g.total

-- both
pub record IsGeometry (g : Geometry) : Type 0 where
  pub header : IsHeader g
  pub map : HasMap g

-- a number that a descriptor may have
pub record IsNumber (g : Geometry) (n : ℕ) : Type 0 where
  pub after : 1 ≤ n
  pub below : n < g.total

-- a segment begins after the identification sector and ends within the volume
abbrev pub is_within : Geometry → ℕ × ℕ → Bool
is_within g segment = nat_le 1 segment.0 && nat_le (segment.0 + segment.1) g.total

-- and so does each segment of a list
abbrev pub LieWithin : Geometry → List (ℕ × ℕ) → Type 0
LieWithin g segments = All (λ segment. is_within g segment ≡ true) segments

-- the 256 bytes of an image's sector n, its LSN
abbrev pub sector : List ℕ → ℕ → List ℕ
sector image n = take 256 (drop (256 * n) image)

-- the geometry in sector 0 of an image
abbrev pub image_geometry : List ℕ → Geometry
image_geometry image = geometry (sector image 0)

-- an image that holds the volume that its sector 0 describes
pub record HasHeader (image : List ℕ) : Type 0 where
  pub ident : 256 ≤ length image
  pub header : IsHeader (image_geometry image)
  pub fits : 256 * (image_geometry image).total ≤ length image
