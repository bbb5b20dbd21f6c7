-- What a call leaves on the media in addition to what its volume shows.
use Rattle.std.specs.Prelude.{◌≡◌, ◌⊎◌, ℕ, ◌+◌, ◌*◌, ◌/◌, ◌<◌, ◌≤◌, ◌&&◌, Bool, not, List, length, slice_index}
use Rattle.rbf_model.specs.Fields.{segments_field, segment_field}
use Rattle.rbf_model.specs.Geometry.{image_geometry, sector, map_sectors}
use Rattle.rbf_model.specs.Space.{is_marked}

-- a bit of the map without a whole cluster: that of a last cluster that is not whole, or one after all clusters, up to
-- the end of the map's last sector. No volume shows these bits
pub record IsMapEnd (image : List ℕ) (c : ℕ) : Type 0 where
  pub not_whole : (image_geometry image).total / (image_geometry image).cluster ≤ c
  pub in_map : c < 2048 * map_sectors (image_geometry image)

-- these bits are unchanged, except that the mark of a cluster that is given up is cleared
abbrev pub KeepsMapEnd : List ℕ → List ℕ → (ℕ → Bool) → Type 0
KeepsMapEnd old new given_up =
    (c : ℕ) → IsMapEnd old c → is_marked (sector new) c ≡ (is_marked (sector old) c && not (given_up c))

-- after a fault that mark may still be set
abbrev pub MayKeepMapEnd : List ℕ → List ℕ → (ℕ → Bool) → Type 0
MayKeepMapEnd old new given_up =
    (c : ℕ) → IsMapEnd old c
    → (is_marked (sector new) c ≡ is_marked (sector old) c)
    ⊎ (is_marked (sector new) c ≡ (is_marked (sector old) c && not (given_up c)))

-- the end of a descriptor's list of segments
abbrev pub list_end : List ℕ → ℕ
list_end descriptor = 16 + 5 * length (segments_field descriptor)

-- a list of fewer than 48 segments that ends with a pair of zeros
abbrev pub IsEnded : List ℕ → Type 0
IsEnded descriptor =
    length (segments_field descriptor) < 48 → segment_field descriptor (length (segments_field descriptor)) ≡ (0, 0)

-- a descriptor that is overwritten
pub record KeepsListEnd (old new : List ℕ) : Type 0 where
  -- an unchanged list of segments keeps its end, and all bytes after it
  pub same : segments_field new ≡ segments_field old → (i : ℕ) → list_end old ≤ i
      → slice_index new i ≡ slice_index old i
  -- a changed list ends with a pair of zeros, and the bytes after it are unchanged
  pub ended : (segments_field new ≡ segments_field old) ⊎ IsEnded new
  pub behind : (i : ℕ) → list_end new + 5 ≤ i → slice_index new i ≡ slice_index old i

-- a new descriptor has zeros after its list of segments
abbrev pub IsNewList : List ℕ → Type 0
IsNewList descriptor = (i : ℕ) → list_end descriptor ≤ i → i < 256 → slice_index descriptor i ≡ 0
