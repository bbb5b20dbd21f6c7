-- Locks together with their history (Level Two manual, RBF record locking; the history is this project's own).
use Rattle.std.specs.Prelude.{ℕ, zero, suc, Bool, false, Option, Some, None, List, [], ◌∷◌, ◌++◌, if◌then◌else◌}
use Rattle.std.specs.Option.{option_map_or}
use Rattle.lock_model.specs.History.{got, put, dropped, AreRecorded, AreUndisturbed}
use Rattle.lock_model.specs.declared.history.Entry.{Entry}
use Rattle.lock_model.specs.Laws.{AreLocks}
use Rattle.lock_model.specs.Locks.{Locks, no_locks, lock_of, with_lock, with_request}
use Rattle.lock_model.specs.declared.lock.Held.{Held}
use Rattle.lock_model.specs.declared.lock.Request.{Request}

pub record Records : Type 0 where
  pub locks : Locks
  pub history : List Entry  -- oldest entry first

-- no locks, and an empty history
abbrev pub no_records : Records
no_records = record { locks = no_locks; history = [] }

-- a path holds this lock, or none, and the history has one more entry
abbrev pub entered : Records → ℕ → Option Held → Entry → Records
entered records path lock entry =
    record { locks = with_lock records.locks path lock; history = records.history ++ entry ∷ [] }

-- a lock is granted to a path, and these bytes are read
abbrev pub holding : Records → ℕ → Held → List ℕ → Records
holding records path lock bytes = entered records path (Some lock) (got path lock bytes)

-- a range is written on a path, which then holds no lock
abbrev pub written_by : Records → ℕ → Held → List ℕ → Records
written_by records path lock bytes = entered records path None (put path lock bytes)

-- the lock of a path, if it holds one, ends without a Get or a Put
abbrev pub without_lock : Records → ℕ → Records
without_lock records path =
    option_map_or (λ lock. entered records path None (dropped path lock)) (lock_of records.locks path) records

-- the lock of a path ends if it passes a test
abbrev pub ends_lock : (ℕ → Held → Bool) → ℕ → Records → Records
ends_lock ends path records =
    if option_map_or (ends path) (lock_of records.locks path) false then without_lock records path else records

-- the locks of the system paths below this one end if they pass a test, the least path first
abbrev pub ends_locks_below : (ℕ → Held → Bool) → ℕ → Records → Records
ends_locks_below ends zero records = records
ends_locks_below ends (suc path) records = ends_lock ends path (ends_locks_below ends path records)

-- a process waits in this request, or in none
abbrev pub with_waiting : Records → ℕ → Option Request → Records
with_waiting records p request = record records { locks = with_request records.locks p request }

-- locks, requests and history agree at all times: the history has each lock's Get, and nothing disturbed it
pub record AreLockRecords (records : Records) : Type 0 where
  pub locks : AreLocks records.locks
  pub recorded : AreRecorded records.locks records.history
  pub undisturbed : AreUndisturbed records.history
