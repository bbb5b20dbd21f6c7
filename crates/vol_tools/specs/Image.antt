-- The image of a newly formatted disk: LSN 0, the allocation map, the root's descriptor and its entries, and zeros
-- after them.
use Rattle.std.specs.Prelude.{◌≡◌, ℕ, ◌+◌, ◌-◌, ◌*◌, ◌/◌, ◌<◌, ◌≤◌, min, nat_lt, true, List, [], ◌∷◌, map, slice_index}
use Rattle.std.specs.List.{range_with_len}
use Rattle.rbf_model.specs.Geometry.{is_cluster_size, sector}
use Rattle.rbf_model.specs.Space.{is_marked}
use Rattle.vol_tools.specs.Blank.{blank_root}

-- a size that a disk may be given
pub record IsDiskSize (sectors cluster : ℕ) : Type 0 where
  pub least : 16 ≤ sectors
  pub most : sectors ≤ 524280
  pub clusters : is_cluster_size cluster ≡ true

-- the number of clusters in use: those of LSN 0, the map, the root's descriptor and its one sector
abbrev pub used_clusters : ℕ → ℕ → ℕ
used_clusters sectors cluster = (blank_root sectors cluster + 2 + (cluster - 1)) / cluster

-- the bytes whose first bits are set: none of them, one, and so on up to all eight
abbrev pub first_bits : List ℕ
first_bits = 0x00 ∷ 0x80 ∷ 0xC0 ∷ 0xE0 ∷ 0xF0 ∷ 0xF8 ∷ 0xFC ∷ 0xFE ∷ 0xFF ∷ []

-- byte i of a map whose first `marked` clusters are marked
abbrev pub marks_byte : ℕ → ℕ → ℕ
marks_byte marked i = slice_index first_bits (min 8 (marked - 8 * i))

-- a map of `bytes` bytes
unfoldable pub marks_map : ℕ → ℕ → List ℕ
marks_map marked bytes = map (marks_byte marked) (range_with_len 0 bytes)

-- the bits of a map's sectors: only those of the clusters in use are set, and none past the last cluster
abbrev pub MarksFirst : List ℕ → ℕ → ℕ → Type 0
MarksFirst image marked bytes =
    (c : ℕ) → c < 8 * bytes → is_marked (sector image) c ≡ nat_lt c marked

-- everything outside the volume is clear: the bits of the map past its clusters, the root's descriptor after its only
-- segment, and each byte of the disk after the root's two entries
pub record IsClean (image : List ℕ) (sectors cluster : ℕ) : Type 0 where
  pub map : MarksFirst image (used_clusters sectors cluster) (256 * (blank_root sectors cluster - 1))
  pub descriptor : (i : ℕ) → 21 ≤ i → slice_index (sector image (blank_root sectors cluster)) i ≡ 0
  pub behind : (i : ℕ) → 256 * (blank_root sectors cluster + 1) + 64 ≤ i → slice_index image i ≡ 0
