-- States and clocks computed by hand.
use Rattle.std.specs.Prelude.{ℕ, List}
use Rattle.os9_base.specs.declared.registers.TimePacket.{TimePacket}
use Rattle.time_rules.specs.CivilRows.{at}
use Rattle.proc_model.specs.Records.{zero_regs}
use Rattle.proc_model.specs.Processes.{Processes}
use Rattle.proc_model.specs.Rows.{one_process}
use Rattle.time_rules.specs.declared.clock.Clock.{Clock}

-- the state in tick 10 in which process 2 has this address in X, and sees these bytes from address 0 on
abbrev pub asking : ℕ → List ℕ → Processes
asking x bytes = one_process bytes (record zero_regs { x = x })

-- a second before 1 March of 1992, a leap year, and 1 March itself
abbrev pub leap_day : TimePacket
leap_day = at 92 2 29 23 59 59

abbrev pub first_of_march : TimePacket
first_of_march = at 92 3 1 0 0 0

-- the clock that was set to that second in tick 10
abbrev pub leap_clock : Clock
leap_clock = record { from = leap_day; since = 10 }
