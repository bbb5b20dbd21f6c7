-- Which processes are active, and what a process waits for. This project's own: the real system keeps a queue of
-- active, of waiting and of sleeping processes (Level Two manual, process scheduling).
use Rattle.std.specs.Prelude.{ℕ, nat_le, Bool, true, false, Option, Some, None, if◌then◌else◌}
use Rattle.os9_sched.specs.declared.member.Wait.{Wait}
use Rattle.os9_sched.specs.declared.member.Standing.{Standing}
use Rattle.os9_sched.specs.declared.member.Standing.TheVariants.{Going, Woken, Resting}
use Rattle.os9_sched.specs.declared.member.Member.{Member}

-- a process may be chosen
abbrev pub is_active : Standing → Bool
is_active Going = true
is_active (Woken wait) = true
is_active (Resting wait) = false

-- its cause and its tick, if it has a cause
abbrev pub wait_of : Standing → Option Wait
wait_of Going = None
wait_of (Woken wait) = Some wait
wait_of (Resting wait) = Some wait

-- a process with a cause made active, and put to rest; the cause stays
abbrev pub woken : Standing → Standing
woken Going = Going
woken (Woken wait) = Woken wait
woken (Resting wait) = Woken wait

abbrev pub rested : Standing → Standing
rested Going = Going
rested (Woken wait) = Resting wait
rested (Resting wait) = Resting wait

-- the tick of a wait is reached, if it has one
abbrev pub is_tick_reached : ℕ → Option ℕ → Bool
is_tick_reached tick None = false
is_tick_reached tick (Some until) = nat_le until tick

-- a process has a tick, and it is reached
abbrev pub is_due : ℕ → Standing → Bool
is_due tick Going = false
is_due tick (Woken wait) = is_tick_reached tick wait.until
is_due tick (Resting wait) = is_tick_reached tick wait.until

-- a process made active if its tick is reached
abbrev pub woken_at : ℕ → Member → Member
woken_at tick m = if is_due tick m.standing then record m { standing = woken m.standing } else m
