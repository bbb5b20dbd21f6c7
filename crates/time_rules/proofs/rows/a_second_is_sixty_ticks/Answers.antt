use Rattle.std.proofs.Common.{refl}
use Rattle.time_rules.specs.CivilTime.{days_of_years, days_of_months, packet_time}
use Rattle.time_rules.specs.Rows.{first_of_march, leap_day}
use Rattle.time_rules.proofs.rows.a_second_is_sixty_ticks.Goals as goal

pub returns-clause-before : goal.returns-clause-before
unfolding days_of_years days_of_months
returns-clause-before c = record { time = packet_time leap_day; civil = refl; later = refl; given = refl }

pub returns-clause-after : goal.returns-clause-after
unfolding days_of_years days_of_months
returns-clause-after c = record { time = packet_time first_of_march; civil = refl; later = refl; given = refl }
