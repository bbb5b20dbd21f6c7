-- Dates and times to work through, by the year less 1900, the month, the day, the hour, the minute and the second.
use Rattle.std.specs.Prelude.{ℕ}
use Rattle.os9_base.specs.declared.registers.TimePacket.{TimePacket}
use Rattle.time_rules.specs.CivilTime.{CivilTime}

-- a packet
abbrev pub at : (year month day hour minute second : ℕ) → TimePacket
at year month day hour minute second =
    record { year = year; month = month; day = day; hour = hour; minute = minute; second = second }

-- a civil time
abbrev pub civil_at : (years month day hour minute second : ℕ) → CivilTime
civil_at years month day hour minute second =
    record { years = years; month = month; day = day; hour = hour; minute = minute; second = second }
