-- The allocation map of an RBF volume: a bit for each cluster (OS-9 Technical Reference, Random Block File Manager,
-- "Disk Allocation Map").
use Rattle.std.specs.Prelude.{◌≡◌, ◌≢◌, ◌⊎◌, ℕ, ◌+◌, ◌-◌, ◌*◌, ◌/◌, ◌%◌, ◌<◌, ◌≤◌, ◌==◌, List, length, filter, slice_index, Option, Some}
use Rattle.std.specs.List.{range_with_len}
use Rattle.std.specs.Int.{bit_at}

-- a map: its number of clusters, the number of whole ones, which are the first, and its bytes
pub record ClusterMap : Type 0 where
  pub clusters : ℕ
  pub whole : ℕ
  pub bytes : List ℕ

-- the mark of a cluster: its bit, the most significant first, which is 1 if the cluster is in use
abbrev pub mark : List ℕ → ℕ → ℕ
mark bytes cluster = bit_at (slice_index bytes (cluster / 8)) (7 - cluster % 8)

-- the clusters below `end` that are not in use
abbrev pub clear_below : List ℕ → ℕ → List ℕ
clear_below bytes end = filter (λ cluster. mark bytes cluster == 0) (range_with_len 0 end)

-- the clusters from `first` up to `end` are in use
abbrev pub MarkedFrom : List ℕ → ℕ → ℕ → Type 0
MarkedFrom bytes first end = (cluster : ℕ) → first ≤ cluster → cluster < end → mark bytes cluster ≡ 1

-- the first cluster of these that is not in use
pub record IsFirstClear (bytes : List ℕ) (first end cluster : ℕ) : Type 0 where
  pub after : first ≤ cluster
  pub below : cluster < end
  pub clear : mark bytes cluster ≡ 0
  pub marked_before : MarkedFrom bytes first cluster

-- the bytes have this mark at one cluster, and every other mark and byte is unchanged
pub record ChangesMark (old new : List ℕ) (cluster bit : ℕ) : Type 0 where
  pub same_length : length new ≡ length old
  pub there : mark new cluster ≡ bit
  pub others : (other : ℕ) → other ≢ cluster → mark new other ≡ mark old other
  pub bytes : (i : ℕ) → i ≢ cluster / 8 → slice_index new i ≡ slice_index old i

-- a cluster is free if it is whole and not in use
pub record IsFreeInMap (map : ClusterMap) (cluster : ℕ) : Type 0 where
  pub whole : cluster < map.whole
  pub clear : mark map.bytes cluster ≡ 0

-- the list of free clusters
abbrev pub map_free_clusters : ClusterMap → List ℕ
map_free_clusters map = clear_below map.bytes map.whole

-- every whole cluster is in use
abbrev pub NoneIsFree : ClusterMap → Type 0
NoneIsFree map = MarkedFrom map.bytes 0 map.whole

-- a cluster with no free one directly before it: it is the first, or the one before it is in use
abbrev pub BeginsRun : ClusterMap → ℕ → Type 0
BeginsRun map cluster = (cluster ≡ 0) ⊎ (mark map.bytes (cluster - 1) ≡ 1)

-- a cluster is the next after the given one
abbrev pub IsNextCluster : Option ℕ → ℕ → Type 0
IsNextCluster last cluster = (at : ℕ) × (last ≡ Some at) × (cluster ≡ at + 1)

-- it is the next after the given one, and free
abbrev pub IsNextFree : ClusterMap → Option ℕ → ℕ → Type 0
IsNextFree map last cluster = IsNextCluster last cluster × IsFreeInMap map cluster

-- the next after the given one, if one is given, is not free
abbrev pub NextIsUsed : ClusterMap → Option ℕ → Type 0
NextIsUsed map last = (at : ℕ) → last ≡ Some at → ¬ IsFreeInMap map (at + 1)

-- a free cluster begins a run
abbrev pub BeginsFreeRun : ClusterMap → ℕ → Type 0
BeginsFreeRun map cluster = IsFreeInMap map cluster × BeginsRun map cluster

-- the cluster that may be taken after the given one, if one is given: a free one, the next if that is free, otherwise
-- one that begins a run
pub record MayTake (map : ClusterMap) (last : Option ℕ) (cluster : ℕ) : Type 0 where
  pub free : IsFreeInMap map cluster
  pub next : (at : ℕ) → last ≡ Some at → IsFreeInMap map (at + 1) → cluster ≡ at + 1
  pub run : IsNextCluster last cluster ⊎ BeginsRun map cluster

-- the map has this mark at one cluster, and all else is unchanged
pub record Marks (old new : ClusterMap) (cluster bit : ℕ) : Type 0 where
  pub clusters : new.clusters ≡ old.clusters
  pub whole : new.whole ≡ old.whole
  pub changed : ChangesMark old.bytes new.bytes cluster bit

-- the n-th sector of the map: the next 256 bytes, with zeros after the last
pub record IsSectorOf (bytes : List ℕ) (n : ℕ) (sector : List ℕ) : Type 0 where
  pub length : length sector ≡ 256
  pub each : (i : ℕ) → i < 256 → slice_index sector i ≡ slice_index bytes (256 * n + i)
