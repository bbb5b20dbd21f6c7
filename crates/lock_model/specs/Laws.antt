-- What holds of locks and requests at all times (Level Two manual, RBF record locking).
use Rattle.std.specs.Prelude.{◌≡◌, ℕ, ◌+◌, ◌<◌, ◌≤◌, false, Some, None, length}
use Rattle.lock_model.specs.declared.lock.Held.{Held}
use Rattle.lock_model.specs.declared.lock.Range.{Range}
use Rattle.lock_model.specs.declared.lock.Request.{Request}
use Rattle.lock_model.specs.declared.lock.TheConstants.{LOCK_PROCESSES, PATH_PLACES}
use Rattle.lock_model.specs.Conflict.{is_against}
use Rattle.lock_model.specs.Locks.{Locks, lock_of, request_of}
use Rattle.lock_model.specs.Waits.{WaitsForProcess}

-- a byte is in a range
pub record IsIn (byte : ℕ) (range : Range) : Type 0 where
  pub from : range.start ≤ byte
  pub to : (end : ℕ) → range.end ≡ Some end → byte < end

-- a range has `count` bytes from its start on
abbrev pub Covers : Range → ℕ → Type 0
Covers range count = (last : ℕ) → range.end ≡ Some last → range.start + count ≤ last

-- processes have ranks, and each waits for processes of lower rank alone; so no process waits for itself
pub record HasRanks (locks : Locks) : Type 0 where
  pub rank : ℕ → ℕ
  pub most : ℕ
  pub within : (p : ℕ) → rank p ≤ most
  pub falls : (p q : ℕ) → WaitsForProcess locks p q → rank q < rank p

-- locks of different processes on a file have no byte in common, each request is for a lock of its own process, and
-- waits form no cycle
pub record AreLocks (locks : Locks) : Type 0 where
  pub paths : length locks.held ≡ PATH_PLACES
  pub processes : length locks.requests ≡ LOCK_PROCESSES
  pub apart : (s t : ℕ) (one other : Held) → lock_of locks s ≡ Some one → lock_of locks t ≡ Some other
      → is_against one other ≡ false
  pub owners : (p : ℕ) (request : Request) → request_of locks p ≡ Some request → request.lock.owner.0 ≡ p
  pub ranks : HasRanks locks

-- the lock, up to an earlier end
abbrev pub cut_at : Held → ℕ → Held
cut_at lock end = record lock { range = record lock.range { end = Some end } }

-- a process may be granted a lock: it does not wait, and the lock conflicts with none
pub record MayHold (locks : Locks) (lock : Held) : Type 0 where
  pub quiet : request_of locks lock.owner.0 ≡ None
  pub free : (t : ℕ) (other : Held) → lock_of locks t ≡ Some other → is_against lock other ≡ false
