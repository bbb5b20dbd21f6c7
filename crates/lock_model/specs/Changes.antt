-- How locks change together with their history (Level Two manual, RBF record locking).
use Rattle.std.specs.Prelude.{◌≡◌, ℕ, ◌<◌, Bool, false, Some, None, List}
use Rattle.lock_model.specs.declared.lock.Held.{Held}
use Rattle.lock_model.specs.declared.lock.Request.{Request}
use Rattle.lock_model.specs.declared.lock.TheConstants.{PATH_PLACES}
use Rattle.lock_model.specs.Conflict.{conflicts}
use Rattle.lock_model.specs.Laws.{MayHold}
use Rattle.lock_model.specs.Locks.{request_of}
use Rattle.lock_model.specs.Records.{Records, ends_locks_below, holding, with_waiting, without_lock, written_by}
use Rattle.lock_model.specs.Waits.{closes}

-- a change by the rules: a lock is granted to a path, a range is written on it, its lock ends, or the locks of the
-- paths below one end if they pass a test; a process begins to wait in a request that closes no cycle, or stops waiting
pub data ChangesByRule (records now : Records) : Type 0 where
  granted : (path : ℕ) (lock : Held) (bytes : List ℕ) → path < PATH_PLACES → MayHold records.locks lock
      → now ≡ holding records path lock bytes → ChangesByRule records now
  written : (path : ℕ) (lock : Held) (bytes : List ℕ) → path < PATH_PLACES → conflicts records.locks lock ≡ false
      → now ≡ written_by records path lock bytes → ChangesByRule records now
  ended : (path : ℕ) → now ≡ without_lock records path → ChangesByRule records now
  ended_below : (ends : ℕ → Held → Bool) (count : ℕ) → now ≡ ends_locks_below ends count records
      → ChangesByRule records now
  waiting : (request : Request) → request_of records.locks request.lock.owner.0 ≡ None
      → closes records.locks request.lock ≡ false
      → now ≡ with_waiting records request.lock.owner.0 (Some request) → ChangesByRule records now
  forgotten : (p : ℕ) → now ≡ with_waiting records p None → ChangesByRule records now
