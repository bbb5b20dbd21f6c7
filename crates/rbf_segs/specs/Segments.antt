-- The contents of a `Segs`, and how sectors are added to it.
use Rattle.std.specs.Prelude.{◌≡◌, ℕ, ◌-◌, ◌<◌, ◌≤◌, List, [], ◌∷◌, ◌++◌, length, take, All}
use Rattle.rbf_model.specs.Segments.{appended_segments}

-- a segment that a descriptor can name: a first sector of three bytes, and a count of two bytes that is not 0
pub record IsSegment (segment : ℕ × ℕ) : Type 0 where
  pub lsn : segment.0 < 16777216
  pub some : 1 ≤ segment.1
  pub count : segment.1 < 65536

-- the list followed by these sectors is the list with this segment in place of its last
pub record Lengthens (segments : List (ℕ × ℕ)) (lsn count : ℕ) (longer : ℕ × ℕ) : Type 0 where
  pub some : 1 ≤ length segments
  pub list : appended_segments segments lsn count ≡ take (length segments - 1) segments ++ longer ∷ []
  pub whole : IsSegment longer

-- the contents of a `Segs`: at most 48 such segments
pub record IsSegments (segments : List (ℕ × ℕ)) : Type 0 where
  pub few : length segments ≤ 48
  pub each : All IsSegment segments
