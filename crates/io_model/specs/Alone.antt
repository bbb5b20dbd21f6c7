-- Who could end a wait on a pipe (this project's own).
use Rattle.std.specs.Prelude.{ℕ, ◌==◌, ◌&&◌, not, Bool, true, false, Option, Some, None}
use Rattle.std.specs.List.{list_any, range_with_len}
use Rattle.os9_base.specs.declared.limits.TheConstants.{PROCESS_PLACES}
use Rattle.io_model.specs.Path.{holds_path}
use Rattle.io_model.specs.declared.pending.PendingCall.{PendingCall}
use Rattle.io_model.specs.Codes.{direction_of}
use Rattle.io_model.specs.Io.{Io, pending_at}
use Rattle.io_model.specs.declared.io_call.Direction.{Direction}
use Rattle.io_model.specs.declared.io_call.Direction.TheVariants.{Reading, Writing}

-- the two directions are the same
abbrev pub is_direction : Direction → Option Direction → Bool
is_direction Reading None = false
is_direction Reading (Some Reading) = true
is_direction Reading (Some Writing) = false
is_direction Writing None = false
is_direction Writing (Some Reading) = false
is_direction Writing (Some Writing) = true

-- a pending call is in this wait: it moves bytes in this direction, on this path
abbrev pub is_in_wait : ℕ → Direction → Option PendingCall → Bool
is_in_wait s direction None = false
is_in_wait s direction (Some pending) = (pending.path.0 == s) && is_direction direction (direction_of pending.code)

-- a process q other than p holds the path, and is not in this wait on it
abbrev pub is_outside : Io → ℕ → ℕ → Direction → ℕ → Bool
is_outside io p s direction q =
    not (q == p) && (holds_path io.paths q s && not (is_in_wait s direction (pending_at io q)))

-- a process that waits on a path in this direction would be alone: no other process could end its wait
abbrev pub is_alone : Io → ℕ → ℕ → Direction → Bool
is_alone io p s direction = not (list_any (is_outside io p s direction) (range_with_len 0 PROCESS_PLACES))
