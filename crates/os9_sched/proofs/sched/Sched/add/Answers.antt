use Rattle.std.proofs.Common.{◌<◌, length, arith, rules}
use Rattle.os9_sched.specs.declared.member.Standing.TheVariants.{Going}
use Rattle.os9_sched.proofs.ScheduleLaws.{room_for_one, IsSchedule-added}
use Rattle.os9_sched.proofs.sched.Sched.add.Goals as goal

pub push_turn-requires : goal.push_turn-requires
push_turn-requires c =
    let room : length c.self.inside.order.items < 33 =
    room_for_one c.self.inside.order.items c.self.inside.members.items
    (record { process = c.args.p; age = c.args.priority })
    (record { priority = c.args.priority; standing = Going }) c.requires.process.1 (search rules)
    c.self.invariant.schedule in
    omega (arith, c.self.invariant.room)

pub invariant_of-self : goal.invariant_of-self
invariant_of-self c = record {
  schedule = IsSchedule-added c.self.inside.order.items _ c.self.inside.members.items
      (record { process = c.args.p; age = c.args.priority }) _ c.push_turn.ensures.items c.requires.process.1
      (search rules) c.self.invariant.schedule;
  room = omega (arith, c.self.invariant.room, c.push_turn.ensures.capacity);
}

pub returns-clause-shape : goal.returns-clause-shape
returns-clause-shape c =
    IsSchedule-added c.self.inside.order.items _ c.self.inside.members.items
    (record { process = c.args.p; age = c.args.priority }) _ c.push_turn.ensures.items c.requires.process.1
    (search rules) c.self.invariant.schedule
