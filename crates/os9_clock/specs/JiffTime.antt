-- The civil time of the calendar's library.
use Rattle.std.specs.Prelude.{pos, ◌-ℤ◌, unsigned_abs}
use Rattle.jiff_core.specs.declared.civil.datetime.DateTime.{DateTime}
use Rattle.time_rules.specs.CivilTime.{CivilTime}

-- a date and time from 1900 on, its year counted from 1900
abbrev pub civil_of : DateTime → CivilTime
civil_of time = record {
  years = unsigned_abs (time.date.year -ℤ pos 1900);
  month = time.date.month;
  day = time.date.day;
  hour = time.time.hour;
  minute = time.time.minute;
  second = time.time.second;
}
