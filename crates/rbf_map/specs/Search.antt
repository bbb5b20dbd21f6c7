-- The result of a search for a run.
use Rattle.std.specs.Prelude.{◌≡◌, ◌⊎◌, ℕ, max, ◌+◌, ◌<◌, ◌≤◌, Bool, false, List}
use Rattle.rbf_model.specs.ClusterMap.{mark, MarkedFrom}
use Rattle.rbf_map.specs.Runs.{is_clear_below, AreFree}
use Rattle.rbf_map.specs.declared.runs.Run.{Run}

-- the clusters from `first` up to `end` are not in use
abbrev pub ClearFrom : List ℕ → ℕ → ℕ → Type 0
ClearFrom bytes first end = (cluster : ℕ) → first ≤ cluster → cluster < end → mark bytes cluster ≡ 0

-- the end of the clusters that are not in use, at most the given end
pub record IsFirstMarked (bytes : List ℕ) (first end cluster : ℕ) : Type 0 where
  pub after : first ≤ cluster
  pub within : cluster ≤ end
  pub clear_before : ClearFrom bytes first cluster
  pub stops : (cluster ≡ end) ⊎ (mark bytes cluster ≡ 1)

-- the next run, counted up to `enough` clusters
pub record IsNextRun (bytes : List ℕ) (from end enough : ℕ) (run : Run) : Type 0 where
  pub after : from ≤ run.first
  pub within : run.first + run.length ≤ end
  pub used_between : MarkedFrom bytes from run.first
  pub some : 1 ≤ run.length
  pub needed : run.length ≤ enough
  pub are_free : AreFree (is_clear_below bytes end) run.first run.length
  pub ends : run.length < enough → is_clear_below bytes end (run.first + run.length) ≡ false

-- neither of this cluster's neighbours is free
pub record IsAlone (free : ℕ → Bool) (cluster : ℕ) : Type 0 where
  pub before : (c : ℕ) → c + 1 ≡ cluster → free c ≡ false
  pub behind : free (cluster + 1) ≡ false

-- a length that no run exceeds after this cluster becomes free, if no run exceeded the longest before
abbrev pub IsLongestWith : (ℕ → Bool) → ℕ → ℕ → ℕ → ℕ → Type 0
IsLongestWith free cluster whole longest now = (now ≡ whole) ⊎ ((now ≡ max longest 1) × IsAlone free cluster)
