-- Parts of a sector over which bytes are laid.
use Rattle.std.specs.Prelude.{◌≡◌, ◌⊎◌, ℕ, ◌+◌, ◌-◌, ◌<◌, ◌≤◌, min, List, length, slice_index}

-- bytes laid from place `at` on cover the sector that begins at `start`, and these are its bytes
pub record CoversSector (start at : ℕ) (from bytes : List ℕ) : Type 0 where
  pub begins : at ≤ start
  pub ends : start + 256 ≤ at + length from
  pub whole : length bytes ≡ 256
  pub each : (q : ℕ) → q < 256 → slice_index bytes q ≡ slice_index from (start - at + q)

-- zeros from place `first` up to `end`; no other byte has changed
pub record ClearsBytes (first end : ℕ) (old new : List ℕ) : Type 0 where
  pub whole : length new ≡ length old
  pub zeros : (q : ℕ) → first ≤ q → q < end → slice_index new q ≡ 0
  pub others : (q : ℕ) → (q < first) ⊎ (end ≤ q) → slice_index new q ≡ slice_index old q

-- the bytes after the first `skip`, up to the room
pub record IsPartIn (from : List ℕ) (skip room : ℕ) (part : List ℕ) : Type 0 where
  pub count : length part ≡ min (length from - skip) room
  pub each : (j : ℕ) → j < length part → slice_index part j ≡ slice_index from (skip + j)
