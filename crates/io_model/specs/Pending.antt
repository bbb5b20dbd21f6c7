-- Pending calls on a terminal or a pipe. A process has at most one: they are a list by number, whose place p has the
-- call of process p, or nothing.
use Rattle.std.specs.Prelude.{ℕ, ◌+◌, ◌-◌, ◌==◌, Bool, Option, None, List, slice_index_or, slice_set}
use Rattle.io_model.specs.declared.pending.PendingCall.{PendingCall}

-- the pending call of a process, if it has one
abbrev pub pending_of : List (Option PendingCall) → ℕ → Option PendingCall
pending_of calls p = slice_index_or calls p None

-- the calls with this call for a process, or with none
abbrev pub with_pending : List (Option PendingCall) → ℕ → Option PendingCall → List (Option PendingCall)
with_pending calls p pending = slice_set calls p pending

-- the number of bytes that a call still has to move
abbrev pub count_left : PendingCall → ℕ
count_left pending = pending.count - pending.moved

-- a call after an attempt that moved `count` more bytes
abbrev pub moved_on : PendingCall → ℕ → PendingCall
moved_on pending count = record pending { moved = pending.moved + count }

-- a call has moved all bytes that it asks for
abbrev pub is_complete : PendingCall → Bool
is_complete pending = pending.moved == pending.count
