-- A pool's list of free blocks.
use Rattle.std.specs.Prelude.{◌≡◌, ◌≢◌, ℕ, ◌<◌, ◌==◌, List, length, count_by, All, AllPairs, slice_index}
use Rattle.proc_model.specs.declared.group.BlockId.{BlockId}

-- a place at which the count is 0
abbrev pub IsUnreferenced : List ℕ → BlockId → Type 0
IsUnreferenced counts id = (id.0 < length counts) × (slice_index counts id.0 ≡ 0)

-- the list has each block of count 0 once
pub record IsFreeList (counts : List ℕ) (free : List BlockId) : Type 0 where
  pub unnamed : All (IsUnreferenced counts) free
  pub once : AllPairs (λ a b. a.0 ≢ b.0) free
  pub whole : length free ≡ count_by (λ count. count == 0) counts
