-- The clock of the machine (System Programmer's Manual, F$Time and F$STime; that 60 ticks are a second is this
-- project's own).
use Rattle.std.specs.Prelude.{◌≡◌, ℕ, ◌-◌, ◌/◌, ◌≤◌, true}
use Rattle.os9_base.specs.declared.registers.TimePacket.{TimePacket}
use Rattle.time_rules.specs.CivilTime.{is_time_packet, IsTimeAfter}
use Rattle.time_rules.specs.declared.clock.Clock.{Clock}
use Rattle.time_rules.specs.declared.clock.TheConstants.{TICKS_PER_SECOND}

-- the clock of a machine that starts at this time
abbrev pub first_clock : TimePacket → Clock
first_clock start = record { from = start; since = 0 }

-- the whole seconds that have passed by this tick since the clock was set
abbrev pub seconds_since : Clock → ℕ → ℕ
seconds_since clock tick = (tick - clock.since) / TICKS_PER_SECOND

-- the packet is that of the time in this tick
abbrev pub IsNow : Clock → ℕ → TimePacket → Type 0
IsNow clock tick packet = IsTimeAfter clock.from (seconds_since clock tick) packet

-- what always holds of a clock: it was set to a civil date and time, and not after this tick
pub record IsClock (clock : Clock) (tick : ℕ) : Type 0 where
  pub civil : is_time_packet clock.from ≡ true
  pub set : clock.since ≤ tick
