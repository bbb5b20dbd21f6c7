-- The days of a civil time, counted.
use Rattle.std.proofs.Common.{◌≡◌, ◌≤◌, ◌<◌, ℕ, zero, suc, ◌+◌, ◌-◌, ◌&&◌, Bool, true, false, nat_le, refl, ap, subst, sym, ◌∙◌, arith, inl, inr, if◌then◌else◌}
use Rattle.std.proofs.lemmas.Bool.{and_parts, leb-true, cases_lt}
use Rattle.os9_base.specs.declared.registers.TimePacket.{TimePacket}
use Rattle.time_rules.specs.CivilTime.{is_leap, days_of_years, days_of_months, month_days, year_days, CivilTime, is_civil, day_number, second_number, time_packet, IsTimeAfter}

-- a month has at most 31 days
month-short : (year month : ℕ) → month_days year month ≤ 31
month-short year month = grind (arith)

-- the parts of a civil time
pub record AreParts (t : CivilTime) : Type 0 where
  pub month_least : 1 ≤ t.month
  pub month_most : t.month ≤ 12
  pub day_least : 1 ≤ t.day
  pub day_most : t.day ≤ month_days (1900 + t.years) t.month
  pub day_short : t.day ≤ 31
  pub hour : t.hour ≤ 23
  pub minute : t.minute ≤ 59
  pub second : t.second ≤ 59

pub parts-of : (t : CivilTime) → is_civil t ≡ true → AreParts t
parts-of t is =
    let a = nat_le 1 t.month in
    let b = nat_le t.month 12 in
    let c = nat_le 1 t.day in
    let d = nat_le t.day (month_days (1900 + t.years) t.month) in
    let e = nat_le t.hour 23 in
    let f = nat_le t.minute 59 in
    let g = nat_le t.second 59 in
    let to_g = and_parts (a && b && c && d && e && f) g is in
    let to_f = and_parts (a && b && c && d && e) f to_g.0 in
    let to_e = and_parts (a && b && c && d) e to_f.0 in
    let to_d = and_parts (a && b && c) d to_e.0 in
    let to_c = and_parts (a && b) c to_d.0 in
    let to_b = and_parts a b to_c.0 in
    let day : t.day ≤ month_days (1900 + t.years) t.month = leb-true t.day (month_days (1900 + t.years) t.month) to_d.1 in
    record {
      month_least = leb-true 1 t.month to_b.0;
      month_most = leb-true t.month 12 to_b.1;
      day_least = leb-true 1 t.day to_c.1;
      day_most = day;
      day_short = omega (arith, day, month-short (1900 + t.years) t.month);
      hour = leb-true t.hour 23 to_e.1;
      minute = leb-true t.minute 59 to_f.1;
      second = leb-true t.second 59 to_g.1;
    }

-- ---- a later month, and a later year

months-later : (year n m : ℕ) → n < m → days_of_months year n + month_days year (suc n) ≤ days_of_months year m
unfolding days_of_months
months-later year n zero less = absurd (omega arith)
months-later year n (suc m) less =
    elim (cases_lt n m) [
      | inl before ↦ omega (arith, months-later year n m before)
      | inr after ↦
          (let same : n ≡ m = omega arith in
          subst (λ (k : ℕ). days_of_months year k + month_days year (suc k) ≤ days_of_months year m + month_days year (suc m)) (sym same) (omega arith))
    ]

years-later : (n m : ℕ) → n < m → days_of_years n + year_days (1900 + n) ≤ days_of_years m
unfolding days_of_years
years-later n zero less = absurd (omega arith)
years-later n (suc m) less =
    elim (cases_lt n m) [
      | inl before ↦ omega (arith, years-later n m before)
      | inr after ↦
          (let same : n ≡ m = omega arith in
          subst (λ (k : ℕ). days_of_years k + year_days (1900 + k) ≤ days_of_years m + year_days (1900 + m)) (sym same) (omega arith))
    ]

-- ---- the days of a year are those of its months

months-sum : (leap : Bool)
    → 31 + (if leap then 29 else 28) + 31 + 30 + 31 + 30 + 31 + 31 + 30 + 31 + 30 + 31 ≡ (if leap then 366 else 365)
months-sum true = refl
months-sum false = refl

pub year-sum : (year : ℕ) → days_of_months year 12 ≡ year_days year
unfolding days_of_months
year-sum year = months-sum (is_leap year)

-- the days before a date in its year
abbrev day_of_year : CivilTime → ℕ
day_of_year t = days_of_months (1900 + t.years) (t.month - 1) + (t.day - 1)

suc-back : (n : ℕ) → 1 ≤ n → suc (n - 1) ≡ n
suc-back n some = omega arith

-- a date lies before the months that follow its own
before-months : (t : CivilTime) (m : ℕ) → AreParts t → t.month ≤ m → day_of_year t < days_of_months (1900 + t.years) m
before-months t m parts less =
    let year = 1900 + t.years in
    let days : days_of_months year (t.month - 1) + month_days year t.month ≤ days_of_months year m =
    subst (λ (k : ℕ). days_of_months year (t.month - 1) + month_days year k ≤ days_of_months year m)
    (suc-back t.month parts.month_least) (months-later year (t.month - 1) m (omega (arith, parts.month_least))) in
    omega (arith, parts.day_least, parts.day_most)

-- a date lies before the years that follow its own
before-years : (t : CivilTime) (n : ℕ) → AreParts t → t.years < n → day_number t < days_of_years n
before-years t n parts less =
    omega (arith, years-later t.years n less, year-sum (1900 + t.years), before-months t 12 parts parts.month_most)

-- ---- one date for each day

same-years : (s t : CivilTime) → AreParts s → AreParts t → day_number s ≡ day_number t → s.years ≡ t.years
same-years s t one other same =
    elim (cases_lt s.years t.years) [
      | inl before ↦ absurd (omega (arith, before-years s t.years one before))
      | inr after ↦
          elim (cases_lt t.years s.years) [
            | inl before ↦ absurd (omega (arith, before-years t s.years other before))
            | inr behind ↦ omega arith
          ]
    ]

-- of two dates of one year with the same day, neither is in a later month
not-later : (s t : CivilTime) → AreParts s → AreParts t → s.years ≡ t.years → day_of_year s ≡ day_of_year t → t.month ≤ s.month
not-later s t one other year same =
    elim (cases_lt s.month t.month) [
      | inl before ↦
          (let less = before-months s (t.month - 1) one (omega arith) in
          let days : days_of_months (1900 + s.years) (t.month - 1) ≡ days_of_months (1900 + t.years) (t.month - 1) = ap (λ (k : ℕ). days_of_months (1900 + k) (t.month - 1)) year in
          absurd (omega (arith, less, days)))
      | inr after ↦ after
    ]

pub record SameDate (s t : CivilTime) : Type 0 where
  pub years : s.years ≡ t.years
  pub month : s.month ≡ t.month
  pub day : s.day ≡ t.day

pub same-date : (s t : CivilTime) → AreParts s → AreParts t → day_number s ≡ day_number t → SameDate s t
same-date s t one other same =
    let years = same-years s t one other same in
    let first : days_of_years s.years ≡ days_of_years t.years = ap days_of_years years in
    let days : day_of_year s ≡ day_of_year t = omega (arith, first) in
    let least = not-later s t one other years days in
    let most = not-later t s other one (sym years) (sym days) in
    let month : s.month ≡ t.month = omega arith in
    let before : days_of_months (1900 + s.years) (s.month - 1) ≡ days_of_months (1900 + t.years) (t.month - 1) = λ i. days_of_months (1900 + years i) (month i - 1) in
    record {
      years = years;
      month = month;
      day = omega (arith, before, days, one.day_least, other.day_least);
    }

-- one time for each second
pub same-time : (s t : CivilTime) → AreParts s → AreParts t → second_number s ≡ second_number t → s ≡ t
same-time s t one other same =
    let date : day_number s ≡ day_number t = omega (arith, one.hour, one.minute, one.second, other.hour, other.minute, other.second) in
    let days = same-date s t one other date in
    let hour : s.hour ≡ t.hour = omega (arith, date, one.minute, one.second, other.minute, other.second) in
    let minute : s.minute ≡ t.minute = omega (arith, date, hour, one.second, other.second) in
    let second : s.second ≡ t.second = omega (arith, date, hour, minute) in
    λ i. record {
      years = days.years i;
      month = days.month i;
      day = days.day i;
      hour = hour i;
      minute = minute i;
      second = second i;
    }

-- and so one packet of so many seconds after another
pub same-packet : (base : TimePacket) (seconds : ℕ) (one other : TimePacket) → IsTimeAfter base seconds one
    → IsTimeAfter base seconds other → one ≡ other
same-packet base seconds one other is_one is_other =
    let same : is_one.time ≡ is_other.time =
    same-time is_one.time is_other.time (parts-of is_one.time is_one.civil) (parts-of is_other.time is_other.civil) (is_one.later ∙ sym is_other.later) in
    is_one.given ∙ (ap (λ (t : CivilTime). time_packet t) same ∙ sym is_other.given)
