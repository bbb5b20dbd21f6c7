-- The cached sectors of a mounted volume.
use Rattle.std.specs.Prelude.{◌≡◌, ℕ, ◌+◌, ◌<◌, ◌≤◌, Option, Some, IsSome, List, take, slice_index, Result, OnOk}
use Rattle.rbf_model.specs.Segments.{sectors_of}
use Rattle.os9_outer.specs.Drive.{sector_at}
use Rattle.sector_cache.specs.declared.sector.Sector.{Sector}
use Rattle.sector_cache.specs.Held.{held_bytes}

-- each held sector has the media's bytes
pub record IsCacheOf (media : Option (List ℕ)) (held : List Sector) : Type 0 where
  pub sectors : (lsn : ℕ) (bytes : List ℕ) → held_bytes held 0 lsn ≡ Some bytes → bytes ≡ sector_at media lsn

-- a sector is held
abbrev pub IsHeldSector : List Sector → ℕ → Type 0
IsHeldSector held lsn = IsSome (held_bytes held 0 lsn)

-- if this sector was held, each sector that was held is still held
abbrev pub StayHeld : ℕ → List Sector → List Sector → Type 0
StayHeld lsn old new = (m : ℕ) → IsHeldSector old lsn → IsHeldSector old m → IsHeldSector new m

-- the sectors of these segments are held from place `from` up to `end`
abbrev pub SectorsAreHeld : List Sector → List (ℕ × ℕ) → ℕ → ℕ → Type 0
SectorsAreHeld held segments from end =
    (place : ℕ) → from ≤ place → place < end → IsHeldSector held (slice_index (sectors_of segments) place)

-- a sector has been used: it is the first one, and no other held sector is more than one place further back than before
pub record IsSectorUsed (lsn : ℕ) (old new : List Sector) : Type 0 where
  pub first : IsHeldSector (take 1 new) lsn
  pub others : (n m : ℕ) → n < 256 → IsHeldSector (take n old) m → IsHeldSector (take (n + 1) new) m

-- `count` sectors of these segments, from place `from` on, have been used: they are the first held sectors, and no
-- other sector is more than `count` places further back than before
pub record StayFirst (segments : List (ℕ × ℕ)) (from count : ℕ) (old new : List Sector) : Type 0 where
  pub first : count ≤ 256 → SectorsAreHeld (take count new) segments from (from + count)
  pub others : (n m : ℕ) → n + count ≤ 256 → IsHeldSector (take n old) m → IsHeldSector (take (n + count) new) m

-- how `count` sectors of these segments, from place `from` on, are read through the cache: if all of them are held, no
-- call of the drive is made; after the read they have been used
pub record UsesSectors {A Fault : Type 0} (segments : List (ℕ × ℕ)) (from count : ℕ) (result : Result A Fault)
    (old new : List Sector) (calls calls_now : ℕ) : Type 0 where
  pub hits : SectorsAreHeld old segments from (from + count) → calls_now ≡ calls
  pub held : OnOk result (StayFirst segments from count old new)
