-- How a file gains clusters (System Programmer's Manual, RBF, "Disk Allocation Map" and "File Descriptors").
-- The only choice of a call is which free cluster it takes. That choice is defined here and nowhere else.
use Rattle.std.specs.Prelude.{◌≡◌, ◌⊎◌, ℕ, ◌+◌, ◌-◌, ◌*◌, ◌/◌, ◌≤◌, ◌<◌, ◌==◌, ◌&&◌, ◌||◌, Bool, true, not, List, [], ◌∷◌, length, get_or}
use Rattle.std.specs.List.{list_any}
use Rattle.rbf_model.specs.Segments.{sectors_of}
use Rattle.rbf_model.specs.Segments.{appended_segments}
use Rattle.rbf_change.specs.Contents.{sector_count}

-- the cluster, of k sectors, has a sector of these segments
abbrev pub uses : ℕ → List (ℕ × ℕ) → ℕ → Bool
uses k segments c = list_any (λ s. s / k == c) (sectors_of segments)

-- the cluster is the one after that of the segments' last sector
pub record IsClusterAfter (k : ℕ) (segments : List (ℕ × ℕ)) (c : ℕ) : Type 0 where
  pub some : 1 ≤ length (sectors_of segments)
  pub next : c ≡ get_or (sectors_of segments) (length (sectors_of segments) - 1) 0 / k + 1

-- a free cluster begins a run if the one before it is not free
abbrev pub begins_run : (ℕ → Bool) → ℕ → Bool
begins_run free c = free c && ((c == 0) || not (free (c - 1)))

-- a cluster that a file with these segments may gain: the one after its last sector's if that is free, otherwise a free
-- one that begins a run
pub record MayGain (k : ℕ) (free : ℕ → Bool) (segments : List (ℕ × ℕ)) (c : ℕ) : Type 0 where
  pub is_free : free c ≡ true
  pub next : (d : ℕ) → IsClusterAfter k segments d → free d ≡ true → c ≡ d
  pub run : IsClusterAfter k segments c ⊎ (begins_run free c ≡ true)

-- the clusters that are still free after a file with these segments has taken its own
abbrev pub free_beside : ℕ → (ℕ → Bool) → List (ℕ × ℕ) → ℕ → Bool
free_beside k free segments c = free c && not (uses k segments c)

-- the segments followed by the sectors of these clusters
abbrev pub with_clusters : ℕ → List (ℕ × ℕ) → List ℕ → List (ℕ × ℕ)
with_clusters k segments [] = segments
with_clusters k segments (c ∷ clusters) = with_clusters k (appended_segments segments (c * k) k) clusters

-- each of these clusters may be gained after those before it
abbrev pub Gains : ℕ → (ℕ → Bool) → List (ℕ × ℕ) → List ℕ → Type 0
Gains k free segments [] = Unit {0}
Gains k free segments (c ∷ clusters) =
    MayGain k (free_beside k free segments) segments c × Gains k free (appended_segments segments (c * k) k) clusters

-- the number of clusters that a file with these segments still needs to hold a size
abbrev pub clusters_needed : ℕ → List (ℕ × ℕ) → ℕ → ℕ
clusters_needed k segments size = (sector_count size - length (sectors_of segments) + (k - 1)) / k

-- a choice of the clusters with which a file holds a size
pub record IsChoice (k : ℕ) (free : ℕ → Bool) (segments : List (ℕ × ℕ)) (size : ℕ) (clusters : List ℕ) : Type 0 where
  pub enough : length clusters ≡ clusters_needed k segments size
  pub gained : Gains k free segments clusters
  pub fits : length (with_clusters k segments clusters) ≤ 48

-- clusters that may be chosen, the last of which does not fit the list of 48 segments
pub record IsOneTooMany (k : ℕ) (free : ℕ → Bool) (segments : List (ℕ × ℕ)) (size : ℕ) (clusters : List ℕ)
    : Type 0 where
  pub needed : length clusters ≤ clusters_needed k segments size
  pub gained : Gains k free segments clusters
  pub full : 48 < length (with_clusters k segments clusters)
