-- Marks of clusters that are cleared in an image.
use Rattle.std.specs.Prelude.{◌≡◌, ℕ, ◌+◌, ◌-◌, ◌/◌, ◌%◌, ◌<◌, ◌==◌, ◌&&◌, not, Bool, List, length, take, slice_index, slice_set}
use Rattle.std.specs.Int.{bit_at}
use Rattle.rbf_model.specs.Segments.{has}
use Rattle.rbf_model.specs.Volume.{DiskVolume, Vol}
use Rattle.vol_tools.specs.Tool.{repaired}

-- a bit of an image from byte 256 on, where the map begins, the most significant of a byte first: the mark of a
-- cluster, and after the map any other bit
abbrev pub bit_of : List ℕ → ℕ → Bool
bit_of image c = bit_at (slice_index image (256 + c / 8)) (7 - c % 8) == 1

-- the byte with the mark of a cluster has changed: that mark is clear, and its other bits are unchanged
pub record ClearsMark (old new : List ℕ) (c : ℕ) : Type 0 where
  pub byte : ℕ
  pub clear : bit_at byte (7 - c % 8) ≡ 0
  pub others : (k : ℕ) → k < 8 → ¬ (k ≡ 7 - c % 8) → bit_at byte k ≡ bit_at (slice_index old (256 + c / 8)) k
  pub changed : new ≡ slice_set old (256 + c / 8) byte

-- the bits of these clusters are clear, and all other bits of the image are unchanged
pub record ClearsBits (old new lost : List ℕ) : Type 0 where
  pub long : length new ≡ length old
  pub bits : (c : ℕ) → bit_of new c ≡ (bit_of old c && not (has lost c))
  pub front : take 256 new ≡ take 256 old

-- the same, so the image represents the volume without these lost clusters
pub record ClearsLostClusters (old lost new : List ℕ) : Type 0 where
  pub gives : (v : DiskVolume) → Vol old v → Vol new (repaired v)
  pub bits : ClearsBits old new lost
