-- Pending calls on a terminal or a pipe: when they may go on, what they wait for, and how they are broken off (Level
-- Two manual, process scheduling; System Programmer's Manual, F$Icpt).
use Rattle.std.specs.Prelude.{ℕ, ◌==◌, ◌&&◌, ◌||◌, not, Bool, false, Option, Some, None, option_and_then, length, if◌then◌else◌}
use Rattle.std.specs.Option.{option_map_or}
use Rattle.os9_base.specs.declared.calls.TheConstants.{I_READ}
use Rattle.os9_base.specs.declared.registers.Pid.{Pid}
use Rattle.os9_sched.specs.declared.member.Cause.{Cause}
use Rattle.io_model.specs.Pipe.{pipe_room}
use Rattle.io_model.specs.Terminal.{Terminal, is_taken, released}
use Rattle.io_model.specs.declared.pending.PendingCall.{PendingCall}
use Rattle.io_model.specs.declared.path.Target.{Target}
use Rattle.io_model.specs.declared.path.Target.TheVariants.{File, Folder, Term, Pipe}
use Rattle.io_model.specs.Alone.{is_alone}
use Rattle.io_model.specs.Codes.{direction_of}
use Rattle.io_model.specs.Io.{Io, terminal_at, pipe_bytes, pending_at, target_of, with_call, with_terminal}
use Rattle.io_model.specs.declared.io_call.Direction.{Direction}
use Rattle.io_model.specs.declared.io_call.Direction.TheVariants.{Reading, Writing}

-- a process, by its number
abbrev pub pid : ℕ → Pid
pid p = record { 0 = p }

-- the target of a process's pending call, if it has one
abbrev pub wait_target : Io → ℕ → Option Target
wait_target io p = option_and_then (λ pending. target_of io pending.path) (pending_at io p)

-- When they may go on.

-- a read of a terminal: a key is there, and no other process's read is unfinished
abbrev pub may_read_terminal : ℕ → Terminal → Bool
may_read_terminal p t = not (length t.ahead == 0) && not (is_taken (pid p) t)

-- a pipe has bytes to read, or room to write
abbrev pub can_move : Io → ℕ → Option Direction → Bool
can_move io pipe None = false
can_move io pipe (Some Reading) = not (length (pipe_bytes io pipe) == 0)
can_move io pipe (Some Writing) = not (pipe_room (pipe_bytes io pipe) == 0)

-- a call of a process would be alone in its wait
abbrev pub would_be_alone : Io → ℕ → PendingCall → Bool
would_be_alone io p pending = option_map_or (is_alone io p pending.path.0) (direction_of pending.code) false

-- a pending call on this target may go on
abbrev pub may_go_by : Io → ℕ → PendingCall → Option Target → Bool
may_go_by io p pending None = false
may_go_by io p pending (Some (File drive sector)) = false
may_go_by io p pending (Some (Folder drive sector)) = false
may_go_by io p pending (Some (Term terminal)) = may_read_terminal p (terminal_at io terminal)
may_go_by io p pending (Some (Pipe pipe)) = can_move io pipe (direction_of pending.code) || would_be_alone io p pending

-- the pending call of a process on a terminal or a pipe may go on
abbrev pub io_may_go : Io → ℕ → Bool
io_may_go io p = option_map_or (λ pending. may_go_by io p pending (target_of io pending.path)) (pending_at io p) false

-- What they wait for.

-- the cause of a wait on this target
abbrev pub cause_by : Target → Option Cause
cause_by (File drive sector) = None
cause_by (Folder drive sector) = None
cause_by (Term terminal) = Some (Cause.Term terminal)
cause_by (Pipe pipe) = Some (Cause.Pipe pipe)

-- what a process waits for, if it has a pending call on a terminal or a pipe
abbrev pub io_waits_for : Io → ℕ → Option Cause
io_waits_for io p = option_and_then cause_by (wait_target io p)

-- How they are broken off.

-- the state without the unfinished read of a process, by the target on which it waits
abbrev pub without_unfinished : Io → ℕ → Option Target → Io
without_unfinished io p None = io
without_unfinished io p (Some (File drive sector)) = io
without_unfinished io p (Some (Folder drive sector)) = io
without_unfinished io p (Some (Term terminal)) = with_terminal io terminal (released (pid p) (terminal_at io terminal))
without_unfinished io p (Some (Pipe pipe)) = io

-- the state after the pending call of a process was broken off, if it has one
abbrev pub io_interrupted : Io → ℕ → Io
io_interrupted io p = with_call (without_unfinished io p (wait_target io p)) p None

-- the count that a broken-off call returns: the bytes that a write or a line read of a pipe has moved
abbrev pub count_by : PendingCall → Option Target → Option ℕ
count_by pending None = None
count_by pending (Some (File drive sector)) = None
count_by pending (Some (Folder drive sector)) = None
count_by pending (Some (Term terminal)) = None
count_by pending (Some (Pipe pipe)) = if pending.code == I_READ then None else Some pending.moved

-- the count in Y of the broken-off call of a process, if it returns one
abbrev pub interrupted_count : Io → ℕ → Option ℕ
interrupted_count io p = option_and_then (λ pending. count_by pending (target_of io pending.path)) (pending_at io p)
