use Rattle.os9_sched.specs.Members.{IsMember}
use Rattle.worked_rows.proofs.tests.turns.age_order.Given as goal

abbrev pub invariant-loop-number : goal.invariant-loop-number
invariant-loop-number g l = IsMember l.sched.members 2
