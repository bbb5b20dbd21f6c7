-- The scheduler: the order of choice, and for each process its priority and what it waits for.
use Rattle.std.specs.Prelude.{◌≡◌, ℕ, Option, Some, None, is_some, option_map, List, length, map, slice_set}
use Rattle.os9_base.specs.declared.limits.TheConstants.{PROCESS_PLACES}
use Rattle.os9_base.specs.declared.registers.Pid.{Pid}
use Rattle.proc_model.specs.declared.turn.Turn.{Turn}
use Rattle.proc_model.specs.Turns.{with_turn, without_turn, has_turn, AreOnce, choose}
use Rattle.os9_sched.specs.declared.member.Wait.{Wait}
use Rattle.os9_sched.specs.declared.member.Standing.{Standing}
use Rattle.os9_sched.specs.declared.member.Standing.TheVariants.{Going, Resting}
use Rattle.os9_sched.specs.declared.member.Member.{Member}
use Rattle.os9_sched.specs.Members.{member_of, member_at, is_active_in, priority_in}
use Rattle.os9_sched.specs.Waits.{woken, rested, woken_at}

pub record Schedule : Type 0 where
  pub order : List Turn  -- the one chosen longest ago first, with their ages
  pub members : List (Option Member)  -- by process number, 0 to 32

-- what always holds of a scheduler: each process in it has one turn, and no other process has a turn
pub record IsSchedule (s : Schedule) : Type 0 where
  pub places : length s.members ≡ PROCESS_PLACES
  pub same : (p : ℕ) → has_turn s.order p ≡ is_some (member_of s.members p)
  pub once : AreOnce s.order

-- the scheduler with another priority or standing of a process
abbrev pub with_priority : Schedule → ℕ → ℕ → Schedule
with_priority s p priority =
    record s { members = slice_set s.members p (Some (record (member_at s.members p) { priority = priority })) }

abbrev pub with_standing : Schedule → ℕ → Standing → Schedule
with_standing s p standing =
    record s { members = slice_set s.members p (Some (record (member_at s.members p) { standing = standing })) }

-- the scheduler with a new process: it is active without a cause, counts as chosen now, and its age is its priority
abbrev pub after_add : Schedule → Pid → ℕ → Schedule
after_add s p priority = record {
  order = with_turn s.order p priority;
  members = slice_set s.members p.0 (Some (record { priority = priority; standing = Going }));
}

-- the scheduler without a process
abbrev pub after_remove : Schedule → ℕ → Schedule
after_remove s p = record { order = without_turn s.order p; members = slice_set s.members p None }

-- the scheduler in which a process has this cause and tick, and rests
abbrev pub after_wait : Schedule → ℕ → Wait → Schedule
after_wait s p wait = with_standing s p (Resting wait)

-- the scheduler in which a process with a cause is active, or rests; the cause stays
abbrev pub after_wake : Schedule → ℕ → Schedule
after_wake s p = with_standing s p (woken (member_at s.members p).standing)

abbrev pub after_rest : Schedule → ℕ → Schedule
after_rest s p = with_standing s p (rested (member_at s.members p).standing)

-- the scheduler in which a process is active without a cause
abbrev pub after_go : Schedule → ℕ → Schedule
after_go s p = with_standing s p Going

-- the scheduler in which each process whose tick is reached is active
abbrev pub after_tick : Schedule → ℕ → Schedule
after_tick s tick = record s { members = map (option_map (woken_at tick)) s.members }

-- Choose over the active members: the chosen process, and the scheduler afterwards
abbrev pub chosen : Schedule → Option Pid
chosen s = (choose (is_active_in s.members) (priority_in s.members) s.order).chosen

abbrev pub after_dispatch : Schedule → Schedule
after_dispatch s = record s { order = (choose (is_active_in s.members) (priority_in s.members) s.order).order }
