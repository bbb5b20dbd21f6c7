use Rattle.std.proofs.Common.{arith}
use Rattle.os9_sched.proofs.ScheduleLaws.{IsSchedule-empty}
use Rattle.os9_sched.proofs.sched.Sched.new.Goals as goal

pub invariant_of-result : goal.invariant_of-result
invariant_of-result c = record {
  schedule = IsSchedule-empty _ _ c.in_ok-with_capacity.ensures.items c.in_ok-empty_places.ensures;
  room = omega (arith, c.in_ok-with_capacity.ensures.capacity);
}
