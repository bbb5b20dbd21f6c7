-- Conflicts (Level Two manual, RBF record locking): a request conflicts with another process's lock on the same file if
-- their ranges have a byte in common.
use Rattle.std.specs.Prelude.{ℕ, ◌==◌, ◌&&◌, not, nat_lt, max, Bool, true, false, Option, Some, None}
use Rattle.std.specs.List.{list_any}
use Rattle.lock_model.specs.declared.lock.Held.{Held}
use Rattle.lock_model.specs.declared.lock.Range.{Range}
use Rattle.lock_model.specs.declared.place.FilePlace.{FilePlace}
use Rattle.lock_model.specs.Locks.{Locks}

-- a byte is before an end; if there is no end, every byte is
abbrev pub is_before : ℕ → Option ℕ → Bool
is_before byte None = true
is_before byte (Some end) = nat_lt byte end

-- two ranges have a byte in common: the later start is before both ends
abbrev pub overlaps : Range → Range → Bool
overlaps a b = is_before (max a.start b.start) a.end && is_before (max a.start b.start) b.end

abbrev pub is_same_file : FilePlace → FilePlace → Bool
is_same_file a b = (a.drive == b.drive) && (a.number == b.number)

-- a requested lock conflicts with a held one
abbrev pub is_against : Held → Held → Bool
is_against asked lock =
    not (lock.owner.0 == asked.owner.0) && (is_same_file asked.file lock.file && overlaps asked.range lock.range)

-- a requested lock conflicts with the lock of a place, and its owner passes a test
abbrev pub is_opposed_by : Held → (ℕ → Bool) → Option Held → Bool
is_opposed_by asked test None = false
is_opposed_by asked test (Some lock) = if_against (is_against asked lock)
  where
    if_against : Bool → Bool
    if_against false = false
    if_against true = test lock.owner.0

-- a requested lock conflicts with a held one, and its owner passes a test
abbrev pub some_opposes : Locks → Held → (ℕ → Bool) → Bool
some_opposes locks asked test = list_any (is_opposed_by asked test) locks.held

-- a requested lock conflicts with a held one
abbrev pub conflicts : Locks → Held → Bool
conflicts locks asked = some_opposes locks asked (λ owner. true)
