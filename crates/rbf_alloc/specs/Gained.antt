-- How a segment list gains clusters of a map.
use Rattle.std.specs.Prelude.{◌≡◌, ◌≢◌, ℕ, ◌+◌, ◌-◌, ◌*◌, ◌/◌, ◌^◌, ◌<◌, ◌≤◌, ◌&&◌, Bool, true, false, not, List, [], ◌∷◌, length, map, get_or, slice_get, slice_index_or, option_map, Option, if◌then◌else◌}
use Rattle.std.specs.List.{range_with_len}
use Rattle.rbf_model.specs.Segments.{sectors_of, appended_segments, has}
use Rattle.rbf_model.specs.ClusterMap.{ClusterMap, mark, Marks}
use Rattle.rbf_map.specs.Runs.{is_clear, BeginsBestRun}
use Rattle.rbf_change.specs.Growth.{uses, free_beside, with_clusters, IsClusterAfter, MayGain, Gains}

-- clusters of k sectors each, in a map of a volume that this project accepts
pub record AreSizes (k : ℕ) (kept : ClusterMap) : Type 0 where
  pub some : 1 ≤ k
  pub few : kept.whole ≤ 524280
  pub whole_ones : kept.whole ≤ kept.clusters
  pub sectors : kept.whole * k ≤ 524280

-- no sector of the segments is in a free cluster
abbrev pub AreApart : ℕ → ClusterMap → List (ℕ × ℕ) → Type 0
AreApart k kept segments = (c : ℕ) → uses k segments c ≡ true → is_clear kept c ≡ false

-- the maps have the same marks and the same number of them
pub record SameMap (old new : ClusterMap) : Type 0 where
  pub clusters : new.clusters ≡ old.clusters
  pub whole : new.whole ≡ old.whole
  pub bytes : length new.bytes ≡ length old.bytes
  pub marks : (c : ℕ) → mark new.bytes c ≡ mark old.bytes c

-- in the second map these clusters are marked in addition
pub record MarksBesides (old new : ClusterMap) (taken : List ℕ) : Type 0 where
  pub clusters : new.clusters ≡ old.clusters
  pub whole : new.whole ≡ old.whole
  pub bytes : length new.bytes ≡ length old.bytes
  pub marks : (c : ℕ) → mark new.bytes c ≡ (if has taken c then 1 else mark old.bytes c)

-- the cluster of the last sector, if there is one
abbrev pub last_cluster : ℕ → List (ℕ × ℕ) → Option ℕ
last_cluster k segments = option_map (λ s. s / k) (slice_get (sectors_of segments) (length (sectors_of segments) - 1))

-- the cluster that is chosen for a file with these segments that still needs `wanted` clusters: if the one after its
-- last sector's is not free, the first of the best run
abbrev pub IsChosenFor : ℕ → (ℕ → Bool) → List (ℕ × ℕ) → ℕ → ℕ → Type 0
IsChosenFor k free segments wanted c =
    ((d : ℕ) → IsClusterAfter k segments d → free d ≡ false) → BeginsBestRun free wanted c

-- each of these clusters is the one that is chosen, for itself and those after it
abbrev pub AreChosen : ℕ → (ℕ → Bool) → List (ℕ × ℕ) → ℕ → List ℕ → Type 0
AreChosen k free segments wanted [] = Unit {0}
AreChosen k free segments wanted (c ∷ clusters) =
    IsChosenFor k (free_beside k free segments) segments wanted c
    × AreChosen k free (appended_segments segments (c * k) k) (wanted - 1) clusters

-- one of `wanted` clusters has been gained
pub record GainsOne (k wanted : ℕ) (old new : ClusterMap) (before after : List (ℕ × ℕ)) : Type 0 where
  pub cluster : ℕ
  pub may : MayGain k (is_clear old) before cluster
  pub chosen : IsChosenFor k (is_clear old) before wanted cluster
  pub marks : Marks old new cluster 1
  pub segments : after ≡ appended_segments before (cluster * k) k
  pub fits : length after ≤ 48

-- the cluster that is chosen does not fit the list
pub record IsOneFull (k wanted : ℕ) (old : ClusterMap) (before : List (ℕ × ℕ)) : Type 0 where
  pub cluster : ℕ
  pub may : MayGain k (is_clear old) before cluster
  pub chosen : IsChosenFor k (is_clear old) before wanted cluster
  pub full : 48 < length (appended_segments before (cluster * k) k)

-- `count` clusters have been gained
pub record IsGain (k count : ℕ) (old new : ClusterMap) (before after : List (ℕ × ℕ)) : Type 0 where
  pub taken : List ℕ
  pub counted : length taken ≡ count
  pub gained : Gains k (is_clear old) before taken
  pub segments : after ≡ with_clusters k before taken
  pub fits : length after ≤ 48
  pub marks : MarksBesides old new taken

-- and they are the chosen ones
pub record IsChosenGain (k count : ℕ) (old new : ClusterMap) (before after : List (ℕ × ℕ)) : Type 0 where
  pub gain : IsGain k count old new before after
  pub chosen : AreChosen k (is_clear old) before count gain.taken

-- chosen clusters, the last of which does not fit the list
pub record IsTooMany (k count : ℕ) (free : ℕ → Bool) (before : List (ℕ × ℕ)) : Type 0 where
  pub taken : List ℕ
  pub needed : length taken ≤ count
  pub gained : Gains k free before taken
  pub chosen : AreChosen k free before count taken
  pub full : 48 < length (with_clusters k before taken)

-- the cluster of the sector in a place
abbrev pub cluster_at : ℕ → List (ℕ × ℕ) → ℕ → ℕ
cluster_at k segments place = get_or (sectors_of segments) place 0 / k

-- the clusters of `count` places from `first` on, each a cluster's sectors after the one before
abbrev pub clusters_from : ℕ → List (ℕ × ℕ) → ℕ → ℕ → List ℕ
clusters_from k segments first count = map (λ i. cluster_at k segments (first + i * k)) (range_with_len 0 count)

-- the segments have all of these places, and their clusters are in the map
pub record AreMapped (k : ℕ) (kept : ClusterMap) (segments : List (ℕ × ℕ)) (first count : ℕ) : Type 0 where
  pub within : first + count * k ≤ length (sectors_of segments)
  pub fits : first + count * k < 2 ^ 32
  pub in_map : (i : ℕ) → i < count → cluster_at k segments (first + i * k) < kept.whole

-- the mark of a cluster is in a sector of the map that was written
abbrev pub is_written : List Bool → ℕ → Bool
is_written written c = slice_index_or written (c / 2048) false

-- a cluster has been given back, unless its mark is in a sector that was written
pub record ReturnsOne (written : List Bool) (cluster : ℕ) (old new : ClusterMap) : Type 0 where
  pub clusters : new.clusters ≡ old.clusters
  pub whole : new.whole ≡ old.whole
  pub bytes : length new.bytes ≡ length old.bytes
  pub others : (c : ℕ) → c ≢ cluster → mark new.bytes c ≡ mark old.bytes c
  pub there : mark new.bytes cluster ≡ (if is_written written cluster then mark old.bytes cluster else 0)

-- the clusters of these places have been given back, except those with their mark in a sector that was written
pub record IsGivenBack (k : ℕ) (segments : List (ℕ × ℕ)) (first count : ℕ) (written : List Bool) (old new : ClusterMap)
    : Type 0 where
  pub clusters : new.clusters ≡ old.clusters
  pub whole : new.whole ≡ old.whole
  pub bytes : length new.bytes ≡ length old.bytes
  pub marks : (c : ℕ) → mark new.bytes c
      ≡ (if has (clusters_from k segments first count) c && not (is_written written c) then 0 else mark old.bytes c)
