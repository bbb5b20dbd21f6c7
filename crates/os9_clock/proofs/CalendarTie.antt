-- The library's calendar and ours count the same days.
use Rattle.std.proofs.Common.{◌≡◌, ◌≤◌, ◌<◌, ℕ, zero, suc, ◌+◌, ◌-◌, ◌*◌, ◌%◌, ◌&&◌, true, false, nat_le, ℤ, pos, negsuc, neg_ℤ, ◌+ℤ◌, ◌-ℤ◌, ◌*ℤ◌, ◌≤ℤ◌, unsigned_abs, refl, ap, subst, ◌∙◌, ◌^◌, arith, inl, if◌then◌else◌}
use Rattle.std.proofs.lemmas.Bool.{and_parts, and_from, le-leb, leb-true}
use Rattle.jiff_core.specs.declared.civil.datetime.DateTime.{DateTime}
use Rattle.jiff_core.specs.Calendar.{IsDate, day_count, days_in_month, days_of_months as jiff_days_of_months}
use Rattle.jiff_core.specs.Date.{epoch_day, IsYmd}
use Rattle.jiff_core.specs.DateTime.{civil_nanos, IsCivilNanos}
use Rattle.jiff_core.specs.Time.{IsTime, IsHms}
use Rattle.std.proofs.lemmas.Int.{by_lt_z}
use Rattle.jiff_core.proofs.DateLemmas.{epoch_day-lt}
use Rattle.jiff_core.proofs.SignedLemmas.{signed_arith}
use Rattle.jiff_core.proofs.CalendarLemmas.{day_count-epoch, days_from_civil-day_count, day_count-next_year, day_count-day_of_year, days_in_month_bounds}
use Rattle.jiff_core.proofs.DateTimeLemmas.{civil_nanos-parts, civil_nanos-lt, civil_nanos_range, time_nanos_bound}
use Rattle.os9_base.specs.declared.registers.TimePacket.{TimePacket}
use Rattle.time_rules.specs.CivilTime.{is_leap, days_of_years, days_of_months, month_days, year_days, CivilTime, packet_time, time_packet, is_civil, IsTimeAfter, day_number, second_number}
use Rattle.os9_clock.specs.JiffTime.{civil_of}

days_of_months-same : (year n : ℕ) → jiff_days_of_months (pos year) n ≡ days_of_months year n
unfolding jiff_days_of_months days_of_months
days_of_months-same year zero = refl
days_of_months-same year (suc n) = ap (λ days. days + month_days year (suc n)) (days_of_months-same year n)

-- the first days of the years
year_start : (years : ℕ) → day_count (pos (1900 + years)) 1 1 ≡ day_count (pos 1900) 1 1 + days_of_years years
unfolding days_of_years
year_start zero = omega arith
year_start (suc years) =
    let next : pos (1900 + suc years) ≡ pos (1900 + years) +ℤ pos 1 = omega (arith, signed_arith) in
    omega (arith, day_count-next_year (pos (1900 + years)) (pos (1900 + suc years)) (omega (arith, signed_arith)) next, year_start years)

day_count-is : (years month day : ℕ) → 1 ≤ day → day_count (pos (1900 + years)) month day ≡ day_count (pos 1900) 1 1 + (days_of_years years + days_of_months (1900 + years) (month - 1) + (day - 1))
day_count-is years month day least =
    omega (arith, day_count-day_of_year (pos (1900 + years)) month day least, year_start years, days_of_months-same (1900 + years) (month - 1))

-- the library's number of a day from 1900 on is ours, but for the days between 1900 and its own beginning
abs-pos : (z : ℤ) → pos 0 ≤ℤ z → pos (unsigned_abs z) ≡ z
abs-pos (pos n) least = refl
abs-pos (negsuc n) least = absurd (omega (arith, signed_arith))

year-is : (year : ℤ) → pos 1900 ≤ℤ year → year ≡ pos (1900 + unsigned_abs (year -ℤ pos 1900))
year-is year late =
    let same = abs-pos (year -ℤ pos 1900) (omega (arith, signed_arith)) in
    omega (arith, signed_arith)

epoch_day-is : (x : DateTime) → pos 1900 ≤ℤ x.date.year → epoch_day x.date +ℤ pos 4_371_953 ≡ pos (day_count (pos 1900) 1 1 + day_number (civil_of x))
epoch_day-is x late =
    let count : day_count x.date.year x.date.month x.date.day ≡ day_count (pos 1900) 1 1 + day_number (civil_of x) =
    ap (λ year. day_count year x.date.month x.date.day) (year-is x.date.year late) ∙ day_count-is
    (unsigned_abs (x.date.year -ℤ pos 1900)) x.date.month x.date.day x.date.day_in.0 in
    omega (arith, signed_arith, days_from_civil-day_count x.date.year x.date.month x.date.day, count)

year-most : (years : ℕ) → year_days (1900 + years) ≤ 366
year-most years = elim (is_leap (1900 + years)) as (λ leap. (if leap then 366 else 365) ≤ 366) [ true ↦ omega arith | false ↦ omega arith ]

month-most : (year month : ℕ) → month_days year month ≤ 31
month-most year month = (days_in_month_bounds (pos year) month).0

days_of_years-most : (years : ℕ) → days_of_years years ≤ years * 366
unfolding days_of_years
days_of_years-most zero = omega arith
days_of_years-most (suc years) = omega (arith, year-most years, days_of_years-most years)

days_of_months-most : (year n : ℕ) → days_of_months year n ≤ n * 31
unfolding days_of_months
days_of_months-most year zero = omega arith
days_of_months-most year (suc n) = omega (arith, month-most year (suc n), days_of_months-most year n)

-- a later time is not in an earlier year
pub later-year : (a b : DateTime) → civil_nanos a ≤ℤ civil_nanos b → pos 1900 ≤ℤ a.date.year → pos 1900 ≤ℤ b.date.year
later-year a b later late =
    by_lt_z b.date.year a.date.year
    (λ earlier. let before = civil_nanos-lt b a (epoch_day-lt b.date a.date (inl earlier)) in absurd (omega (arith, signed_arith)))
    (λ same. omega (arith, signed_arith))

-- the seconds between two times
pub seconds-between : (a b : DateTime) (seconds : ℕ) → pos 1900 ≤ℤ a.date.year → pos 1900 ≤ℤ b.date.year
    → a.time.subsec_nanosecond ≡ 0 → civil_nanos b ≡ civil_nanos a +ℤ (pos seconds *ℤ pos 1_000_000_000)
    → second_number (civil_of b) ≡ second_number (civil_of a) + seconds
seconds-between a b seconds from_a from_b whole later =
    omega (arith, signed_arith, civil_nanos-parts a, civil_nanos-parts b, epoch_day-is a from_a, epoch_day-is b from_b)

-- ---- the parts of a civil time
pub record AreParts (t : CivilTime) : Type 0 where
  pub month_least : 1 ≤ t.month
  pub month_most : t.month ≤ 12
  pub day_least : 1 ≤ t.day
  pub day_most : t.day ≤ month_days (1900 + t.years) t.month
  pub day_short : t.day ≤ 31
  pub hour : t.hour ≤ 23
  pub minute : t.minute ≤ 59
  pub second : t.second ≤ 59

pub parts-of : (t : CivilTime) → is_civil t ≡ true → AreParts t
parts-of t is =
    let a = nat_le 1 t.month in
    let b = nat_le t.month 12 in
    let c = nat_le 1 t.day in
    let d = nat_le t.day (month_days (1900 + t.years) t.month) in
    let e = nat_le t.hour 23 in
    let f = nat_le t.minute 59 in
    let g = nat_le t.second 59 in
    let to_g = and_parts (a && b && c && d && e && f) g is in
    let to_f = and_parts (a && b && c && d && e) f to_g.0 in
    let to_e = and_parts (a && b && c && d) e to_f.0 in
    let to_d = and_parts (a && b && c) d to_e.0 in
    let to_c = and_parts (a && b) c to_d.0 in
    let to_b = and_parts a b to_c.0 in
    let day : t.day ≤ month_days (1900 + t.years) t.month = leb-true t.day (month_days (1900 + t.years) t.month) to_d.1 in
    record {
      month_least = leb-true 1 t.month to_b.0;
      month_most = leb-true t.month 12 to_b.1;
      day_least = leb-true 1 t.day to_c.1;
      day_most = day;
      day_short = omega (arith, month-most (1900 + t.years) t.month);
      hour = leb-true t.hour 23 to_e.1;
      minute = leb-true t.minute 59 to_f.1;
      second = leb-true t.second 59 to_g.1;
    }

pub is_date : (t : CivilTime) → AreParts t → t.years ≤ 255 → IsDate (pos (1900 + t.years)) (pos t.month) (pos t.day)
is_date t parts years = (
  ((omega (arith, signed_arith)), (omega (arith, signed_arith))),
  ((omega (arith, signed_arith)), (omega (arith, signed_arith))),
  (
    (omega (arith, signed_arith)),
    (omega (arith, signed_arith, parts.day_most)),
  ),
)

pub is_clock : (t : CivilTime) → AreParts t → IsTime (pos t.hour) (pos t.minute) (pos t.second) (pos 0)
is_clock t parts = (
  ((omega (arith, signed_arith)), (omega (arith, signed_arith))),
  (
    (omega (arith, signed_arith)),
    (omega (arith, signed_arith)),
  ),
  ((omega (arith, signed_arith)), (omega (arith, signed_arith))),
  ((omega (arith, signed_arith)), (omega (arith, signed_arith))),
)

-- the library's time is civil
pub civil_of-is : (x : DateTime) → pos 1900 ≤ℤ x.date.year → is_civil (civil_of x) ≡ true
civil_of-is x late =
    let years = unsigned_abs (x.date.year -ℤ pos 1900) in
    let year : x.date.year ≡ pos (1900 + years) = year-is x.date.year late in
    let day : x.date.day ≤ month_days (1900 + years) x.date.month = subst (λ y. x.date.day ≤ days_in_month y x.date.month) year x.date.day_in.1 in
    and_from _ (nat_le x.time.second 59)
    (and_from _ (nat_le x.time.minute 59)
    (and_from _ (nat_le x.time.hour 23)
    (and_from _ (nat_le x.date.day (month_days (1900 + years) x.date.month))
    (and_from _ (nat_le 1 x.date.day)
    (and_from (nat_le 1 x.date.month) (nat_le x.date.month 12) (le-leb 1 x.date.month x.date.month_in.0) (le-leb x.date.month 12 x.date.month_in.1))
    (le-leb 1 x.date.day x.date.day_in.0))
    (le-leb x.date.day (month_days (1900 + years) x.date.month) day))
    (le-leb x.time.hour 23 (omega (arith, x.time.hour_in))))
    (le-leb x.time.minute 59 (omega (arith, x.time.minute_in))))
    (le-leb x.time.second 59 (omega (arith, x.time.second_in)))

-- the civil time of a library's time with a packet's parts
pub civil_of-packet : (t : TimePacket) (x : DateTime) → IsYmd (pos (1900 + t.year)) (pos t.month) (pos t.day) x.date
    → IsHms (pos t.hour) (pos t.minute) (pos t.second) (pos 0) x.time → civil_of x ≡ packet_time t
civil_of-packet t x date time =
    let years : unsigned_abs (x.date.year -ℤ pos 1900) ≡ t.year = (let whole = year-is x.date.year (omega (arith, signed_arith, date.0)) in omega (arith, signed_arith, date.0)) in
    let month : x.date.month ≡ t.month = omega (arith, signed_arith, date.1) in
    let day : x.date.day ≡ t.day = omega (arith, signed_arith, date.2) in
    let hour : x.time.hour ≡ t.hour = omega (arith, signed_arith, time.0) in
    let minute : x.time.minute ≡ t.minute = omega (arith, signed_arith, time.1) in
    let second : x.time.second ≡ t.second = omega (arith, signed_arith, time.2) in
    λ i. record {
      years = years i;
      month = month i;
      day = day i;
      hour = hour i;
      minute = minute i;
      second = second i;
    }

-- the library has each time up to 136 years after one of 1900 to 2155
pub can_add : (x : DateTime) (seconds : ℕ) → pos 1900 ≤ℤ x.date.year → x.date.year ≤ℤ pos 2155 → seconds < 2 ^ 32 → IsCivilNanos (civil_nanos x +ℤ (pos seconds *ℤ pos 1_000_000_000))
can_add x seconds late early few =
    let years = unsigned_abs (x.date.year -ℤ pos 1900) in
    let year : x.date.year ≡ pos (1900 + years) = year-is x.date.year late in
    let short : years ≤ 255 = omega (arith, signed_arith) in
    let first : day_count (pos 1900) 1 1 ≤ 4_371_953 = omega (arith, year_start 70, day_count-epoch) in
    let day : x.date.day ≤ 31 = (let within = x.date.day_in.1 in let most = (days_in_month_bounds x.date.year x.date.month).0 in omega arith) in
    let month : x.date.month ≤ 12 = x.date.month_in.1 in
    let days : day_number (civil_of x) ≤ 94_000 = omega (arith, days_of_years-most years, days_of_months-most (1900 + years) (x.date.month - 1)) in
    let epoch : epoch_day x.date ≤ℤ pos 94_000 = omega (arith, signed_arith, epoch_day-is x late) in
    let range = civil_nanos_range x in
    let low : neg_ℤ (pos 377_705_116_800_000_000_000) ≤ℤ civil_nanos x = range.0 in
    let high : civil_nanos x ≤ℤ pos 8_200_000_000_000_000_000 = omega (arith, signed_arith, civil_nanos-parts x, time_nanos_bound x.time) in
    (omega (arith, signed_arith), omega (arith, signed_arith))

-- what the addition gives
pub after-is : (t : TimePacket) (seconds : ℕ) (a b : DateTime) (packet : TimePacket) → IsYmd (pos (1900 + t.year))
    (pos t.month) (pos t.day) a.date → IsHms (pos t.hour) (pos t.minute) (pos t.second) (pos 0) a.time
    → civil_nanos b ≡ civil_nanos a +ℤ (pos seconds *ℤ pos 1_000_000_000) → packet ≡ time_packet (civil_of b)
    → IsTimeAfter t seconds packet
after-is t seconds a b packet date time later given =
    let from_a : pos 1900 ≤ℤ a.date.year = omega (arith, signed_arith, date.0) in
    let after : civil_nanos a ≤ℤ civil_nanos b = omega (arith, signed_arith) in
    let from_b : pos 1900 ≤ℤ b.date.year = later-year a b after from_a in
    let whole : a.time.subsec_nanosecond ≡ 0 = omega (arith, signed_arith, time.3) in
    record {
      time = civil_of b;
      civil = civil_of-is b from_b;
      later = seconds-between a b seconds from_a from_b whole later ∙ ap (λ c. second_number c + seconds) (civil_of-packet t a date time);
      given = given;
    }

-- the packet of the time that a packet gives is that packet
pub same_packet : (t : TimePacket) → t.year ≤ 255 → t ≡ time_packet (packet_time t)
same_packet t fits =
    let year : t.year ≡ t.year % 256 = omega arith in
    λ i. record {
      year = year i;
      month = t.month;
      day = t.day;
      hour = t.hour;
      minute = t.minute;
      second = t.second;
    }
