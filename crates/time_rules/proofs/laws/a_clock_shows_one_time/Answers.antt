use Rattle.time_rules.proofs.Days.{same-packet}
use Rattle.time_rules.proofs.Next.{later-packet}
use Rattle.time_rules.specs.Clock.{seconds_since}
use Rattle.time_rules.proofs.laws.a_clock_shows_one_time.Goals as goal

pub returns-clause-there : goal.returns-clause-there
returns-clause-there c clock tick is = later-packet clock.from (seconds_since clock tick) is.civil

pub returns-clause-one : goal.returns-clause-one
returns-clause-one c clock tick one other is_one is_other =
    same-packet clock.from (seconds_since clock tick) one other is_one is_other
