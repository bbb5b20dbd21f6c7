-- The choice of the next process (Level Two manual, process scheduling).
use Rattle.std.specs.Prelude.{ℕ, Bool, if◌then◌else◌}
use Rattle.proc_model.specs.Records.{is_living, record_at}
use Rattle.proc_model.specs.Turns.{Choice, choose}
use Rattle.proc_model.specs.Processes.{Processes}
use Rattle.proc_model.specs.Ready.{is_ready}

-- the priority of a living process, and 0 for any other number
abbrev pub turn_priority : Processes → ℕ → ℕ
turn_priority s p = if is_living s.records p then (record_at s.records p).priority else 0

-- the chosen process, if a process is Ready, and the order of choice afterwards, given the processes with calls on
-- input and output that may go on
abbrev pub choice_of : (ℕ → Bool) → Processes → Choice
choice_of io s = choose (is_ready io s) (turn_priority s) s.order

-- the state after a choice
abbrev pub after_choice : (ℕ → Bool) → Processes → Processes
after_choice io s = record s { order = (choice_of io s).order }
