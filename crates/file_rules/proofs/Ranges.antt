-- How many bytes the ranges of claims have.
use Rattle.std.proofs.Common.{◌≡◌, ℕ, ◌+◌, ◌<◌, ◌≤◌, ◌==◌, Bool, true, false, Option, Some, None, arith}
use Rattle.std.specs.Prelude.{nat_lt, if◌then◌else◌}
use Rattle.std.proofs.lemmas.Bool.{eqb-false}
use Rattle.std.proofs.lemmas.Option.{none-some, same_Some}
use Rattle.lock_model.specs.Laws.{Covers}
use Rattle.lock_model.specs.declared.lock.Range.{Range}
use Rattle.file_rules.specs.Locking.{range_of}
use Rattle.file_rules.specs.Status.{range_locked, range_resized}
use Rattle.file_rules.specs.declared.status.TheConstants.{WHOLE_FILE}

-- those that are asked for, and as many less
pub range-covers : (size at count few : ℕ) → few ≤ count → Covers (range_of size at count) few
range-covers size at count few less last is = by (nat_lt size (at + count)) is
  where
    by : (past : Bool) → (if past then None else Some (at + count)) ≡ Some last → at + few ≤ last
    by true is = absurd (none-some last is)
    by false is = let same : at + count ≡ last = same_Some (at + count) last is in omega (arith, same, less)

pub resized-covers : (old new count : ℕ) → Covers (range_resized old new) count
resized-covers old new count last is = absurd (none-some last is)

-- the range of SS.Lock has one byte at least
pub locked-covers : (size at count : ℕ) → (count == 0) ≡ false → Covers (range_locked size at count) 1
locked-covers size at count some = by (count == WHOLE_FILE)
  where
    whole : Range
    whole = record { start = 0; end = None }

    by : (all : Bool) → Covers (if all then whole else range_of size at count) 1
    by true = λ last is. absurd (none-some last is)
    by false = range-covers size at count 1 (omega (arith, eqb-false count 0 some))
