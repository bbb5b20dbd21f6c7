-- Clusters: those that are marked, and those of a file.
use Rattle.std.specs.Prelude.{◌≡◌, ◌↔◌, ℕ, ◌+◌, ◌-◌, ◌*◌, ◌/◌, ◌%◌, ◌==◌, nat_le, Bool, true, false, List, [], ◌∷◌, ◌++◌, slice_index, Option, Some, if◌then◌else◌}
use Rattle.std.specs.List.{range_with_len, list_any}
use Rattle.std.specs.Int.{bit_at}
use Rattle.rbf_model.specs.Geometry.{LieWithin, Geometry, map_sectors}
use Rattle.rbf_model.specs.Segments.{AreDistinct, sectors_of, has}
use Rattle.rbf_model.specs.File.{DiskFile}

-- Cluster c is the sectors from c k up to (c + 1) k. It is whole if they are all below the total.
abbrev pub is_whole : Geometry → ℕ → Bool
is_whole g c = nat_le ((c + 1) * g.cluster) g.total

-- the number of clusters
abbrev pub cluster_count : Geometry → ℕ
cluster_count g = (g.total + (g.cluster - 1)) / g.cluster

-- byte i of the map ("Disk Allocation Map"), which begins at LSN 1
abbrev pub map_byte : (ℕ → List ℕ) → ℕ → ℕ
map_byte disk i = slice_index (disk (1 + i / 256)) (i % 256)

-- the map marks the cluster: one bit each, the most significant first
unfoldable pub is_marked : (ℕ → List ℕ) → ℕ → Bool
is_marked disk c = bit_at (map_byte disk (c / 8)) (7 - c % 8) == 1

-- the identification sector and the map
abbrev pub system_sectors : Geometry → List ℕ
system_sectors g = range_with_len 0 (1 + map_sectors g)

-- the sectors of a file, its descriptor's first
abbrev pub own_sectors : ℕ → DiskFile → List ℕ
own_sectors n file = n ∷ sectors_of file.segments

-- the sectors of one owner: those of the file; for the root's file, the system's sectors come first
unfoldable pub owned : Geometry → ℕ → DiskFile → List ℕ
owned g n file = (if n == g.root then system_sectors g else []) ++ own_sectors n file

-- the sector is one of the owner's
unfoldable pub owns : Geometry → ℕ → DiskFile → ℕ → Bool
owns g n file s = has (owned g n file) s

-- the cluster holds a sector of the owner
unfoldable pub has_cluster : Geometry → ℕ → DiskFile → ℕ → Bool
has_cluster g n file c = list_any (λ t. t / g.cluster == c) (owned g n file)

-- no file has the cluster
abbrev pub Unused : Geometry → (ℕ → Option DiskFile) → ℕ → Type 0
Unused g files c = (n : ℕ) (file : DiskFile) → files n ≡ Some file → has_cluster g n file c ≡ false

-- a lost cluster: whole, marked and in no file
pub record IsLost (g : Geometry) (marked : ℕ → Bool) (files : ℕ → Option DiskFile) (c : ℕ) : Type 0 where
  pub whole : is_whole g c ≡ true
  pub marked_in : marked c ≡ true
  pub unused : Unused g files c

-- The rules on sectors, for the files of a volume: the segments of each are within it, and every cluster has at most
-- one owner, and is marked if it has one.
pub record IsMapped (g : Geometry) (marked : ℕ → Bool) (files : ℕ → Option DiskFile) (lost : ℕ → Bool) : Type 0 where
  -- rule 1
  pub within : (n : ℕ) (file : DiskFile) → files n ≡ Some file → LieWithin g file.segments
  -- rule 3
  pub marks : (n : ℕ) (file : DiskFile) (c : ℕ) → files n ≡ Some file → has_cluster g n file c ≡ true → marked c ≡ true
  -- rule 4
  pub once : (n : ℕ) (file : DiskFile) → files n ≡ Some file → AreDistinct (owned g n file)
  pub apart : (n m : ℕ) (one other : DiskFile) (c : ℕ) → files n ≡ Some one → files m ≡ Some other
      → has_cluster g n one c ≡ true → has_cluster g m other c ≡ true → n ≡ m
  -- the lost clusters are those that are marked and in no file
  pub lost_are : (c : ℕ) → (lost c ≡ true) ↔ IsLost g marked files c
