use Rattle.std.proofs.Common.{refl}
use Rattle.time_rules.specs.CivilTime.{days_of_years, days_of_months}
use Rattle.time_rules.proofs.civil_rows.seconds_are_counted.Goals as goal

pub returns-clause-first : goal.returns-clause-first
unfolding days_of_years days_of_months
returns-clause-first c = refl

pub returns-clause-unix : goal.returns-clause-unix
unfolding days_of_years days_of_months
returns-clause-unix c = refl

pub returns-clause-later : goal.returns-clause-later
unfolding days_of_years days_of_months
returns-clause-later c = refl
