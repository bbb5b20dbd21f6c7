-- Civil dates and times (System Programmer's Manual, F$Time and F$STime). A packet's year counts from 1900.
use Rattle.std.specs.Prelude.{◌≡◌, ℕ, zero, suc, ◌+◌, ◌-◌, ◌*◌, ◌%◌, ◌==◌, ◌&&◌, ◌||◌, not, nat_le, Bool, true, if◌then◌else◌}
use Rattle.os9_base.specs.declared.registers.TimePacket.{TimePacket}

-- every fourth year is a leap year, except that only every fourth century year is
abbrev pub is_leap : ℕ → Bool
is_leap year = (year % 4 == 0) && (not (year % 100 == 0) || (year % 400 == 0))

-- the days of a month
abbrev pub month_days : ℕ → ℕ → ℕ
month_days year month =
    if month == 2
    then (if is_leap year then 29 else 28)
    else (if (month == 4) || (month == 6) || (month == 9) || (month == 11) then 30 else 31)

-- the days of a year
abbrev pub year_days : ℕ → ℕ
year_days year = if is_leap year then 366 else 365

-- the days of the first years from 1900 on
unfoldable pub days_of_years : ℕ → ℕ
days_of_years zero = 0
days_of_years (suc years) = days_of_years years + year_days (1900 + years)

-- the days of the first months of a year
unfoldable pub days_of_months : ℕ → ℕ → ℕ
days_of_months year zero = 0
days_of_months year (suc months) = days_of_months year months + month_days year (suc months)

-- a date and time, its year counted from 1900
pub record CivilTime : Type 0 where
  pub years : ℕ
  pub month : ℕ
  pub day : ℕ
  pub hour : ℕ
  pub minute : ℕ
  pub second : ℕ

-- the calendar and a clock have this date and time
abbrev pub is_civil : CivilTime → Bool
is_civil t =
    nat_le 1 t.month && nat_le t.month 12 && nat_le 1 t.day && nat_le t.day (month_days (1900 + t.years) t.month)
    && nat_le t.hour 23 && nat_le t.minute 59 && nat_le t.second 59

-- the number of days between 1 January 1900 and the date
abbrev pub day_number : CivilTime → ℕ
day_number t = days_of_years t.years + days_of_months (1900 + t.years) (t.month - 1) + (t.day - 1)

-- the number of seconds between the beginning of 1900 and the time
abbrev pub second_number : CivilTime → ℕ
second_number t = day_number t * 86400 + t.hour * 3600 + t.minute * 60 + t.second

-- the date and time that a packet gives, in a year from 1900 to 2155
abbrev pub packet_time : TimePacket → CivilTime
packet_time t = record {
  years = t.year;
  month = t.month;
  day = t.day;
  hour = t.hour;
  minute = t.minute;
  second = t.second;
}

-- a packet is a civil date and time of 1900 to 2155
abbrev pub is_time_packet : TimePacket → Bool
is_time_packet t = is_civil (packet_time t)

-- the packet of a date and time: its year wraps around after 2155
abbrev pub time_packet : CivilTime → TimePacket
time_packet t = record {
  year = t.years % 256;
  month = t.month;
  day = t.day;
  hour = t.hour;
  minute = t.minute;
  second = t.second;
}

-- the packet of the civil time this number of seconds after another packet's
pub record IsTimeAfter (base : TimePacket) (seconds : ℕ) (packet : TimePacket) : Type 0 where
  pub time : CivilTime
  pub civil : is_civil time ≡ true
  pub later : second_number time ≡ second_number (packet_time base) + seconds
  pub given : packet ≡ time_packet time
