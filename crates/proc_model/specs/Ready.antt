-- Who is Ready, and what a chosen process does next (Level Two manual, process scheduling).
use Rattle.std.specs.Prelude.{ℕ, ◌&&◌, ◌||◌, not, is_some, Bool, true, false, Option, Some, None}
use Rattle.proc_model.specs.Ends.{ended_child}
use Rattle.proc_model.specs.Records.{record_at, is_living, is_waiting}
use Rattle.proc_model.specs.Processes.{Processes, own_at}
use Rattle.proc_model.specs.Sleep.{may_wake}
use Rattle.proc_model.specs.Send.{is_call}
use Rattle.os9_base.specs.declared.calls.TheConstants.{F_WAIT, F_SLEEP}

-- a child of a waiting process has ended, or the sleep of a process may end
abbrev pub may_go_on : Processes → ℕ → Bool
may_go_on s p =
    (is_call (own_at s p).call F_WAIT && is_some (ended_child s.records p))
    || (is_call (own_at s p).call F_SLEEP && may_wake s.tick (own_at s p))

-- no pending call on input and output may go on
abbrev pub no_io : ℕ → Bool
no_io p = false

-- a process is Ready, given the processes with calls on input and output that may go on: it lives, and it does not
-- wait, or has a pending signal, or its wait for a child, its sleep or its call on input and output may end
abbrev pub is_ready : (ℕ → Bool) → Processes → ℕ → Bool
is_ready io s p =
    is_living s.records p
    && (not (is_waiting (record_at s.records p).life)
    || (is_some (record_at s.records p).signal || (may_go_on s p || io p)))

-- what a chosen process does next
pub data Act : Type 0 where
  -- an attempt of the call with this code
  attempts : ℕ → Act
  -- the delivery of this signal
  delivers : ℕ → Act
  -- an instruction
  executes : Act

-- The next event of a process: the first that applies of the first attempt of its call, the delivery of a pending
-- signal, a further attempt, an instruction. A call of a waiting process was already attempted.
abbrev pub next_act : Option ℕ → Bool → Option ℕ → Act
next_act (Some code) false signal = attempts code
next_act (Some code) true (Some signal) = delivers signal
next_act (Some code) true None = attempts code
next_act None waits (Some signal) = delivers signal
next_act None waits None = executes

-- the next event of a process
abbrev pub act_of : Processes → ℕ → Act
act_of s p = next_act (own_at s p).call (is_waiting (record_at s.records p).life) (record_at s.records p).signal
