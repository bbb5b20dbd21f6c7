-- The date and time of the next second, and so of each later one.
use Rattle.std.proofs.Common.{◌≡◌, ◌≤◌, ℕ, zero, suc, ◌+◌, ◌-◌, true, nat_le, refl, ap, sym, subst, arith, inl, inr}
use Rattle.std.proofs.lemmas.Bool.{and_from, le-leb, cases_lt}
use Rattle.os9_base.specs.declared.registers.TimePacket.{TimePacket}
use Rattle.time_rules.specs.CivilTime.{days_of_years, days_of_months, month_days, CivilTime, is_civil, second_number, packet_time, time_packet, is_time_packet, IsTimeAfter}
use Rattle.time_rules.proofs.Days.{AreParts, parts-of, year-sum}

-- a date and time so many seconds after another
pub record Later (t : CivilTime) (seconds : ℕ) : Type 0 where
  pub time : CivilTime
  pub civil : is_civil time ≡ true
  pub later : second_number time ≡ second_number t + seconds

-- these parts are those of the next second
follow : (t time : CivilTime) → 1 ≤ time.month → time.month ≤ 12 → 1 ≤ time.day
    → time.day ≤ month_days (1900 + time.years) time.month → time.hour ≤ 23 → time.minute ≤ 59 → time.second ≤ 59
    → second_number time ≡ second_number t + 1 → Later t 1
follow t time month_least month_most day_least day_most hour minute second later = record {
  time = time;
  civil =
      and_from _ (nat_le time.second 59)
      (and_from _ (nat_le time.minute 59)
      (and_from _ (nat_le time.hour 23)
      (and_from _ (nat_le time.day (month_days (1900 + time.years) time.month))
      (and_from _ (nat_le 1 time.day)
      (and_from (nat_le 1 time.month) (nat_le time.month 12) (le-leb 1 time.month month_least) (le-leb time.month 12 month_most))
      (le-leb 1 time.day day_least))
      (le-leb time.day (month_days (1900 + time.years) time.month) day_most))
      (le-leb time.hour 23 hour))
      (le-leb time.minute 59 minute))
      (le-leb time.second 59 second);
  later = later;
}

month-long : (year month : ℕ) → 1 ≤ month_days year month
month-long year month = grind (arith)

-- the days before a month, and those of the month
months-next : (year month : ℕ) → 1 ≤ month
    → days_of_months year month ≡ days_of_months year (month - 1) + month_days year month
unfolding days_of_months
months-next year zero least = absurd (omega (arith, least))
months-next year (suc month) least =
    let e : suc month - 1 ≡ month = omega arith in
    subst (λ (k : ℕ). days_of_months year month + month_days year (suc month) ≡ days_of_months year k + month_days year (suc month)) (sym e) refl

next-year : (t : CivilTime) → AreParts t → 59 ≤ t.second → 59 ≤ t.minute → 23 ≤ t.hour
    → month_days (1900 + t.years) t.month ≤ t.day → 12 ≤ t.month → Later t 1
unfolding days_of_months days_of_years
next-year t parts second minute hour day month =
    let year = 1900 + t.years in
    let last : t.month ≡ 12 = omega (arith, month, parts.month_most) in
    let whole : days_of_months year t.month ≡ days_of_months year 12 = ap (days_of_months year) last in
    let days = months-next year t.month parts.month_least in
    follow t (record { years = suc t.years; month = 1; day = 1; hour = 0; minute = 0; second = 0 })
    (omega arith) (omega arith) (omega arith) (omega arith) (omega arith) (omega arith) (omega arith)
    (omega (arith, whole, days, year-sum year, second, minute, hour, day, parts.second, parts.minute, parts.hour, parts.day_most, parts.day_least))

next-month : (t : CivilTime) → AreParts t → 59 ≤ t.second → 59 ≤ t.minute → 23 ≤ t.hour
    → month_days (1900 + t.years) t.month ≤ t.day → Later t 1
next-month t parts second minute hour day =
    elim (cases_lt t.month 12) [
      | inl less ↦
          (let year = 1900 + t.years in
          let e : suc t.month - 1 ≡ t.month = omega arith in
          let begins : days_of_months year (suc t.month - 1) ≡ days_of_months year t.month = ap (days_of_months year) e in
          let days = months-next year t.month parts.month_least in
          follow t (record { years = t.years; month = suc t.month; day = 1; hour = 0; minute = 0; second = 0 })
          (omega arith) (omega (arith, less)) (omega arith) (month-long year (suc t.month)) (omega arith) (omega arith) (omega arith)
          (omega (arith, begins, days, second, minute, hour, day, parts.second, parts.minute, parts.hour, parts.day_most, parts.day_least)))
      | inr last ↦ next-year t parts second minute hour day last
    ]

next-day : (t : CivilTime) → AreParts t → 59 ≤ t.second → 59 ≤ t.minute → 23 ≤ t.hour → Later t 1
next-day t parts second minute hour =
    elim (cases_lt t.day (month_days (1900 + t.years) t.month)) [
      | inl less ↦
          follow t (record { years = t.years; month = t.month; day = t.day + 1; hour = 0; minute = 0; second = 0 })
          parts.month_least parts.month_most (omega arith) (omega (arith, less)) (omega arith) (omega arith) (omega arith)
          (omega (arith, second, minute, hour, parts.second, parts.minute, parts.hour, parts.day_least))
      | inr last ↦ next-month t parts second minute hour last
    ]

next-hour : (t : CivilTime) → AreParts t → 59 ≤ t.second → 59 ≤ t.minute → Later t 1
next-hour t parts second minute =
    elim (cases_lt t.hour 23) [
      | inl less ↦
          follow t (record t { hour = t.hour + 1; minute = 0; second = 0 })
          parts.month_least parts.month_most parts.day_least parts.day_most (omega (arith, less)) (omega arith) (omega arith)
          (omega (arith, second, minute, parts.second, parts.minute))
      | inr last ↦ next-day t parts second minute last
    ]

next-minute : (t : CivilTime) → AreParts t → 59 ≤ t.second → Later t 1
next-minute t parts second =
    elim (cases_lt t.minute 59) [
      | inl less ↦
          follow t (record t { minute = t.minute + 1; second = 0 })
          parts.month_least parts.month_most parts.day_least parts.day_most parts.hour (omega (arith, less)) (omega arith)
          (omega (arith, second, parts.second))
      | inr last ↦ next-hour t parts second last
    ]

next : (t : CivilTime) → AreParts t → Later t 1
next t parts =
    elim (cases_lt t.second 59) [
      | inl less ↦
          follow t (record t { second = t.second + 1 })
          parts.month_least parts.month_most parts.day_least parts.day_most parts.hour parts.minute (omega (arith, less))
          (omega arith)
      | inr last ↦ next-minute t parts last
    ]

pub later-time : (t : CivilTime) (seconds : ℕ) → is_civil t ≡ true → Later t seconds
later-time t zero is = record { time = t; civil = is; later = omega arith }
later-time t (suc seconds) is =
    let before = later-time t seconds is in
    let after = next before.time (parts-of before.time before.civil) in
    record {
      time = after.time;
      civil = after.civil;
      later = omega (arith, before.later, after.later);
    }

pub later-packet : (base : TimePacket) (seconds : ℕ) → is_time_packet base ≡ true
    → (packet : TimePacket) × IsTimeAfter base seconds packet
later-packet base seconds is =
    let later = later-time (packet_time base) seconds is in
    (time_packet later.time, record { time = later.time; civil = later.civil; later = later.later; given = refl })
