-- What the clock of the worked rows shows.
use Rattle.std.proofs.Common.{◌≡◌, ℕ, ◌+◌, refl, sym, ap}
use Rattle.time_rules.specs.CivilTime.{days_of_months, days_of_years, packet_time, second_number}
use Rattle.time_rules.specs.CivilRows.{at}
use Rattle.time_rules.specs.Clock.{IsNow, first_clock, seconds_since}
use Rattle.machine_model.specs.SliceRows.{at_start}

-- in a tick of the first second
pub first-second : (tick : ℕ) → seconds_since (first_clock at_start) tick ≡ 0 → IsNow (first_clock at_start) tick at_start
unfolding days_of_years days_of_months
first-second tick none = record {
  time = packet_time at_start;
  civil = refl;
  later = ap (λ (seconds : ℕ). second_number (packet_time at_start) + seconds) (sym none);
  given = refl;
}

pub one-second : IsNow (first_clock at_start) 119 (at 90 1 1 0 0 1)
unfolding days_of_years days_of_months
one-second = record { time = packet_time (at 90 1 1 0 0 1); civil = refl; later = refl; given = refl }

pub two-seconds : IsNow (first_clock at_start) 120 (at 90 1 1 0 0 2)
unfolding days_of_years days_of_months
two-seconds = record { time = packet_time (at 90 1 1 0 0 2); civil = refl; later = refl; given = refl }
