-- A part of a sector that is overwritten.
use Rattle.std.specs.Prelude.{◌≡◌, ℕ, ◌+◌, ◌<◌, ◌≤◌, List, length, slice_index}
use Rattle.byteorder.specs.Endian.{big_from}

-- the bytes are unchanged, except `count` bytes from place `at` on
pub record KeepsBeside (old new : List ℕ) (at count : ℕ) : Type 0 where
  pub same_length : length new ≡ length old
  pub before : (i : ℕ) → i < at → slice_index new i ≡ slice_index old i
  pub behind : (i : ℕ) → at + count ≤ i → slice_index new i ≡ slice_index old i

-- a number has been written there, the highest byte first
pub record PutsNumber (old new : List ℕ) (at count value : ℕ) : Type 0 where
  pub number : big_from at count new ≡ value
  pub beside : KeepsBeside old new at count
