-- The two steps of a dispatch: the ages change, and the chosen process moves after the others.
use Rattle.std.specs.Prelude.{map}
use Rattle.os9_base.specs.declared.registers.Pid.{Pid}
use Rattle.proc_model.specs.Turns.{aged, with_turn, without_turn}
use Rattle.os9_sched.specs.Members.{is_active_in, priority_in}
use Rattle.os9_sched.specs.Schedule.{Schedule}

-- the scheduler in which each process has the age of one that is not chosen
abbrev pub grown_older : Schedule → Schedule
grown_older s = record s { order = map (aged (is_active_in s.members) (priority_in s.members)) s.order }

-- the scheduler in which a process has the last turn, with its priority as its age
abbrev pub with_last : Schedule → Pid → Schedule
with_last s p = record s { order = with_turn (without_turn s.order p.0) p (priority_in s.members p.0) }
