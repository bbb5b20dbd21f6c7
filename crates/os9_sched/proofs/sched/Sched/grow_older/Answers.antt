use Rattle.std.proofs.Common.{arith, rules}
use Rattle.std.proofs.lemmas.Grind.{common_steps}
use Rattle.os9_sched.specs.Members.{is_active_in, priority_in}
use Rattle.os9_sched.proofs.ScheduleLaws.{IsSchedule-aged}
use Rattle.os9_sched.proofs.sched.Sched.grow_older.Goals as goal

pub invariant_of-self : goal.invariant_of-self
invariant_of-self c = record {
  schedule = IsSchedule-aged c.self.inside.order.items _ c.self.inside.members.items
      (is_active_in c.self.inside.members.items) (priority_in c.self.inside.members.items)
      (first_of (search rules, grind (arith, common_steps))) c.self.invariant.schedule;
  room = c.self.invariant.room;
}

pub returns-clause-shape : goal.returns-clause-shape
returns-clause-shape c =
    IsSchedule-aged c.self.inside.order.items _ c.self.inside.members.items (is_active_in c.self.inside.members.items)
    (priority_in c.self.inside.members.items) (first_of (search rules, grind (arith, common_steps)))
    c.self.invariant.schedule
