use Rattle.std.proofs.Common.{arith, rules}
use Rattle.os9_sched.proofs.ScheduleLaws.{IsSchedule-removed}
use Rattle.os9_sched.proofs.sched.Sched.remove.Goals as goal

pub invariant_of-self : goal.invariant_of-self
invariant_of-self c = record {
  schedule = IsSchedule-removed c.self.inside.order.items _ c.self.inside.members.items c.args.p.0 c.remove_turn.ensures.items (search rules) c.self.invariant.schedule;
  room = omega (arith, c.self.invariant.room, c.remove_turn.ensures.capacity);
}

pub returns-clause-shape : goal.returns-clause-shape
returns-clause-shape c =
    IsSchedule-removed c.self.inside.order.items _ c.self.inside.members.items c.args.p.0 c.remove_turn.ensures.items (search rules) c.self.invariant.schedule
