-- The date and time that words give (this project's own).
use Rattle.std.specs.Prelude.{codes, Option, Some}
use Rattle.std.specs.Option.{option_map_or}
use Rattle.os9_base.specs.declared.registers.TimePacket.{TimePacket}
use Rattle.os9_clock.specs.TimeText.{time_in}
use Rattle.option_reader.specs.Given.{Given, value_of}

-- the start without `--time`: the beginning of 1990
abbrev pub default_start : TimePacket
default_start = record { year = 90; month = 1; day = 1; hour = 0; minute = 0; second = 0 }

-- the date and time at the start: T with `--time T`
abbrev pub time_of : Given → Option TimePacket
time_of words = option_map_or time_in (value_of words (codes "time")) (Some default_start)
