-- Runs of free clusters, and the chosen one. The choice is ours: the manual leaves it open.
use Rattle.std.specs.Prelude.{◌≡◌, ℕ, ◌+◌, ◌<◌, ◌≤◌, ◌==◌, ◌&&◌, nat_lt, Bool, true, List, Option}
use Rattle.rbf_model.specs.ClusterMap.{ClusterMap, mark, NextIsUsed}

-- a cluster below the end is not in use
abbrev pub is_clear_below : List ℕ → ℕ → ℕ → Bool
is_clear_below bytes end c = nat_lt c end && (mark bytes c == 0)

-- a cluster of the map is whole and not in use
abbrev pub is_clear : ClusterMap → ℕ → Bool
is_clear map c = is_clear_below map.bytes map.whole c

-- n clusters in a row, from the first on, are free
abbrev pub AreFree : (ℕ → Bool) → ℕ → ℕ → Type 0
AreFree free first n = (c : ℕ) → first ≤ c → c < first + n → free c ≡ true

-- the chosen run for `wanted` clusters: the first with n free clusters; n is all that are wanted, or no run has more
pub record IsBestRun (free : ℕ → Bool) (wanted first n : ℕ) : Type 0 where
  pub needed : n ≤ wanted
  pub are_free : AreFree free first n
  pub none_before : (c : ℕ) → c < first → ¬ AreFree free c n
  pub none_longer : n < wanted → (c : ℕ) → ¬ AreFree free c (n + 1)

-- the first cluster of that run
abbrev pub BeginsBestRun : (ℕ → Bool) → ℕ → ℕ → Type 0
BeginsBestRun free wanted first = (n : ℕ) × IsBestRun free wanted first n

-- the chosen cluster for a file that still needs `wanted` clusters: if the one after its last is not free, the first of
-- the best run
abbrev pub IsChosenCluster : ClusterMap → Option ℕ → ℕ → ℕ → Type 0
IsChosenCluster map last wanted cluster = NextIsUsed map last → BeginsBestRun (is_clear map) wanted cluster
