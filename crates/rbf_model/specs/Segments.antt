-- Segment lists, as a file descriptor has them (OS-9 Technical Reference, Random Block File Manager, FD.SEG), and the
-- sectors that they represent. A segment is the pair of its first sector and its number of sectors.
use Rattle.std.specs.Prelude.{ℕ, ◌+◌, ◌-◌, ◌==◌, ◌≢◌, ◌&&◌, nat_lt, min, Bool, List, [], ◌∷◌, flat_map, AllPairs, if◌then◌else◌}
use Rattle.std.specs.List.{range_with_len, list_any}

-- the sectors of one segment: `segment.1` sectors from the first on
abbrev pub segment_sectors : ℕ × ℕ → List ℕ
segment_sectors segment = range_with_len segment.0 segment.1

-- the sectors of a segment list, in the order of the segments
abbrev pub sectors_of : List (ℕ × ℕ) → List ℕ
sectors_of segments = flat_map segment_sectors segments

-- the sector is the next after the segment, which has room for `count` more
abbrev pub joins : ℕ × ℕ → ℕ → ℕ → Bool
joins segment lsn count = (segment.0 + segment.1 == lsn) && nat_lt (segment.1 + count) 65536

-- the list followed by `count` sectors from `lsn` on: they lengthen the last segment if they follow it and its count
-- stays below 65,536, and otherwise are a segment of their own
abbrev pub appended_segments : List (ℕ × ℕ) → ℕ → ℕ → List (ℕ × ℕ)
appended_segments [] lsn count = (lsn, count) ∷ []
appended_segments (segment ∷ []) lsn count =
    if joins segment lsn count then (segment.0, segment.1 + count) ∷ [] else segment ∷ (lsn, count) ∷ []
appended_segments (segment ∷ next ∷ segments) lsn count = segment ∷ appended_segments (next ∷ segments) lsn count

-- the list with at most `sectors` sectors: its first segments, the last of them shortened
abbrev pub shortened_segments : ℕ → List (ℕ × ℕ) → List (ℕ × ℕ)
shortened_segments sectors [] = []
shortened_segments sectors (segment ∷ segments) =
    if sectors == 0 then [] else (segment.0, min sectors segment.1) ∷ shortened_segments (sectors - segment.1) segments

-- the list has the number
abbrev pub has : List ℕ → ℕ → Bool
has numbers n = list_any (λ m. m == n) numbers

-- no number occurs twice in the list
abbrev pub AreDistinct : List ℕ → Type 0
AreDistinct numbers = AllPairs (λ m n. m ≢ n) numbers
