-- The clusters of a file's own sectors, segment by segment, and the sector of the map that has their marks.
use Rattle.std.specs.Prelude.{◌≡◌, ℕ, ◌+◌, ◌-◌, ◌/◌, ◌%◌, ◌<◌, ◌==◌, ◌&&◌, nat_le, nat_lt, Bool, true, not, false, List, ◌∷◌, length, get_or, slice_index, if◌then◌else◌}
use Rattle.std.specs.Int.{bit_at}
use Rattle.std.specs.List.{list_any}
use Rattle.rbf_model.specs.ClusterMap.{ClusterMap, mark}
use Rattle.rbf_alloc.specs.declared.own.OwnSectors.{OwnSectors}
use Rattle.rbf_alloc.specs.declared.own.Stretch.{Stretch}

-- the segments of a file, after a first segment for its descriptor alone
abbrev pub own_segments : OwnSectors → List (ℕ × ℕ)
own_segments own = (own.fd, 1) ∷ own.segs

-- a cluster of k sectors has a sector of the segment
abbrev pub in_segment : ℕ → ℕ × ℕ → ℕ → Bool
in_segment k segment c = nat_le (segment.0 / k) c && nat_le c ((segment.0 + segment.1 - 1) / k)

-- the same for one of these segments
abbrev pub in_segments : ℕ → List (ℕ × ℕ) → ℕ → Bool
in_segments k segments c = list_any (λ segment. in_segment k segment c) segments

-- a cluster has a sector of a file's segments: of the one in place i, or of any
abbrev pub in_part : ℕ → OwnSectors → ℕ → ℕ → Bool
in_part k own i c = in_segment k (get_or (own_segments own) i (0, 0)) c

abbrev pub in_own : ℕ → OwnSectors → ℕ → Bool
in_own k own c = in_segments k (own_segments own) c

-- a cluster of a stretch
abbrev pub in_stretch : Stretch → ℕ → Bool
in_stretch part c = nat_le part.first c && nat_lt c part.end

-- those of these clusters that have their mark in the map's sector in this place; each sector has 2,048 marks
abbrev pub here : (ℕ → Bool) → ℕ → ℕ → Bool
here gone place c = gone c && (c / 2048 == place)

-- the mark of a cluster in the bytes of the map's sector that has it
abbrev pub sector_mark : List ℕ → ℕ → Bool
sector_mark bytes c = bit_at (slice_index bytes (c / 8 % 256)) (7 - c % 8) == 1

-- in the sector in this place the marks of these clusters have been cleared, and no others
abbrev pub ClearsIn : ℕ → List ℕ → List ℕ → (ℕ → Bool) → Type 0
ClearsIn place old new gone = (c : ℕ) → c / 2048 ≡ place → sector_mark new c ≡ (sector_mark old c && not (gone c))

-- the marks of these clusters have been cleared, and nothing else of the map has changed
pub record ClearsMarks (old new : ClusterMap) (gone : ℕ → Bool) : Type 0 where
  pub clusters : new.clusters ≡ old.clusters
  pub whole : new.whole ≡ old.whole
  pub bytes : length new.bytes ≡ length old.bytes
  pub marks : (c : ℕ) → mark new.bytes c ≡ (if gone c then 0 else mark old.bytes c)

-- one of these clusters has its mark there, or none has
abbrev pub HasHere : (ℕ → Bool) → ℕ → Type 0
HasHere gone place = (c : ℕ) × (here gone place c ≡ true)

abbrev pub NoneHere : (ℕ → Bool) → ℕ → Type 0
NoneHere gone place = (c : ℕ) → here gone place c ≡ false

-- all of these clusters are in the map
abbrev pub AreInMap : (ℕ → Bool) → ClusterMap → Type 0
AreInMap gone map = (c : ℕ) → gone c ≡ true → c < map.clusters
