use Rattle.time_rules.proofs.Days.{parts-of, same-time, same-packet}
use Rattle.time_rules.proofs.Next.{later-packet}
use Rattle.time_rules.proofs.civil_laws.each_second_has_one_time.Goals as goal

pub returns-clause-there : goal.returns-clause-there
returns-clause-there c base seconds is = later-packet base seconds is

pub returns-clause-time : goal.returns-clause-time
returns-clause-time c one other is_one is_other same = same-time one other (parts-of one is_one) (parts-of other is_other) same

pub returns-clause-packet : goal.returns-clause-packet
returns-clause-packet c base seconds one other is_one is_other = same-packet base seconds one other is_one is_other
