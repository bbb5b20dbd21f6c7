-- The positions of directory entries on an image, of 32 bytes each, eight in a sector. Position e begins at byte 32 e.
use Rattle.std.specs.Prelude.{◌≡◌, ℕ, ◌*◌, ◌/◌, ◌%◌, true, List, flat_map}
use Rattle.std.specs.List.{range_with_len}
use Rattle.rbf_model.specs.Fields.{directory_entry, is_used, descriptor_field}
use Rattle.rbf_model.specs.Segments.{segment_sectors}

-- the bytes of position e
abbrev pub entry_at_position : (ℕ → List ℕ) → ℕ → List ℕ
entry_at_position disk e = directory_entry (disk (e / 8)) (e % 8)

-- the positions of a list of ranges, each given by its first position and its number of positions
abbrev pub positions_in : List (ℕ × ℕ) → List ℕ
positions_in ranges = flat_map segment_sectors ranges

-- the positions of the sectors of a segment list
abbrev pub segment_positions : List (ℕ × ℕ) → List ℕ
segment_positions segments = flat_map (λ segment. range_with_len (8 * segment.0) (8 * segment.1)) segments

-- position e has a used entry, which names descriptor n
pub record PositionNames (disk : ℕ → List ℕ) (e n : ℕ) : Type 0 where
  pub used : is_used (entry_at_position disk e) ≡ true
  pub descriptor : descriptor_field (entry_at_position disk e) ≡ n
