-- Locks and requests (Level Two manual, RBF record locking). A system path holds at most one lock, and a process waits
-- in at most one request.
use Rattle.std.specs.Prelude.{ℕ, Option, None, List, replicate, slice_index_or, slice_set}
use Rattle.lock_model.specs.declared.lock.Held.{Held}
use Rattle.lock_model.specs.declared.lock.Request.{Request}
use Rattle.lock_model.specs.declared.lock.TheConstants.{LOCK_PROCESSES, PATH_PLACES}

pub record Locks : Type 0 where
  pub held : List (Option Held)  -- the lock of each system path, by number
  pub requests : List (Option Request)  -- the request of each waiting process, by number

-- no locks, and no waiting process
abbrev pub no_locks : Locks
no_locks = record { held = replicate PATH_PLACES None; requests = replicate LOCK_PROCESSES None }

-- the lock of a path, if it holds one
abbrev pub lock_of : Locks → ℕ → Option Held
lock_of locks s = slice_index_or locks.held s None

-- the request of a process, if it waits in one
abbrev pub request_of : Locks → ℕ → Option Request
request_of locks p = slice_index_or locks.requests p None

-- the locks with this one, or none, for a path
abbrev pub with_lock : Locks → ℕ → Option Held → Locks
with_lock locks s lock = record locks { held = slice_set locks.held s lock }

-- the locks with this request, or none, for a process
abbrev pub with_request : Locks → ℕ → Option Request → Locks
with_request locks p request = record locks { requests = slice_set locks.requests p request }
