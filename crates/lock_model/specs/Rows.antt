-- Worked examples: processes 2, 3 and 4 hold the records of four bytes at 0, 4 and 8 of one file, on paths 2, 4 and 6.
use Rattle.std.specs.Prelude.{ℕ, ◌+◌, Option, Some}
use Rattle.os9_base.specs.declared.calls.TheConstants.{I_READ}
use Rattle.lock_model.specs.Locks.{Locks, no_locks, with_lock, with_request}
use Rattle.lock_model.specs.declared.lock.Held.{Held}
use Rattle.lock_model.specs.declared.lock.Range.{Range}
use Rattle.lock_model.specs.declared.lock.Request.{Request}
use Rattle.lock_model.specs.declared.place.FilePlace.{FilePlace}

abbrev pub file_a : FilePlace
file_a = record { drive = 0; number = 9 }

abbrev pub bytes_to : ℕ → Option ℕ → Range
bytes_to start end = record { start = start; end = end }

abbrev pub four_from : ℕ → Range
four_from at = bytes_to at (Some (at + 4))

abbrev pub lock_on : ℕ → Range → Held
lock_on p range = record { owner = record { 0 = p }; file = file_a; range = range }

abbrev pub owned_by : ℕ → ℕ → Held
owned_by p at = lock_on p (four_from at)

-- in tick 9, a process requests the record at this position on path 7, and waits for this number of ticks
abbrev pub asking : ℕ → ℕ → ℕ → Request
asking p at ticks = record {
  code = I_READ;
  path = 7;
  count = 4;
  lock = owned_by p at;
  ticks = ticks;
  since = 9;
}

abbrev pub three_records : Locks
three_records =
    with_lock (with_lock (with_lock no_locks 2 (Some (owned_by 2 0))) 4 (Some (owned_by 3 4))) 6 (Some (owned_by 4 8))

-- process 2 waits for the record of process 3, and 3 for that of 4
abbrev pub two_wait : Locks
two_wait = with_request (with_request three_records 2 (Some (asking 2 4 0))) 3 (Some (asking 3 8 0))
