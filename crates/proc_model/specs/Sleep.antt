-- F$Sleep: sleeps (System Programmer's Manual, F$Sleep).
-- Takes the ticks in X, or 0 to sleep for ever. Returns in X the ticks left at the end of the sleep, 0 for a sleep for
-- ever. It ends at its tick, or with signal 1.
use Rattle.std.specs.Prelude.{ℕ, ◌+◌, ◌-◌, ◌==◌, ◌||◌, nat_le, Bool, false, Option, Some, None, if◌then◌else◌}
use Rattle.std.specs.Option.{option_map_or}
use Rattle.proc_model.specs.declared.own.Own.{Own}
use Rattle.proc_model.specs.Records.{record_at, is_waiting}
use Rattle.proc_model.specs.Processes.{Processes, own_at, regs_at, with_regs_of, with_own}
use Rattle.proc_model.specs.CallResult.{CallResult, done, waits}

-- the tick that ends a sleep of this number of ticks that begins now; nothing if it is for ever
abbrev pub sleep_end : ℕ → ℕ → Option ℕ
sleep_end tick ticks = if ticks == 0 then None else Some (tick + ticks)

-- a sleep may end: its tick is reached, or a wake has arrived
abbrev pub may_wake : ℕ → Own → Bool
may_wake tick own = own.woken || option_map_or (λ until. nat_le until tick) own.until false

-- the ticks that are left of a sleep
abbrev pub ticks_left : ℕ → Own → ℕ
ticks_left tick own = option_map_or (λ until. until - tick) own.until 0

-- the first attempt: the sleep begins
abbrev pub falls_asleep : Processes → ℕ → CallResult
falls_asleep s p =
    waits (with_own s p (record (own_at s p) { until = sleep_end s.tick (regs_at s p).x; woken = false }))

-- a further attempt
abbrev pub sleeps_on : Processes → ℕ → CallResult
sleeps_on s p =
    if may_wake s.tick (own_at s p)
    then done (with_regs_of s p (record (regs_at s p) { x = ticks_left s.tick (own_at s p) })) else waits s

abbrev pub f_sleep : Processes → ℕ → CallResult
f_sleep s p = if is_waiting (record_at s.records p).life then sleeps_on s p else falls_asleep s p
