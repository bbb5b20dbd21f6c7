use Rattle.std.proofs.Common.{◌<◌, length, arith, rules}
use Rattle.os9_sched.proofs.ScheduleLaws.{room_for_last, IsSchedule-last}
use Rattle.os9_sched.proofs.sched.Sched.put_last.Goals as goal

pub push_turn-requires : goal.push_turn-requires
push_turn-requires c =
    let room : length c.remove_turn.new.order.items < 33 =
    room_for_last c.self.inside.order.items _ c.self.inside.members.items (record { process = c.args.p; age = 0 }) c.remove_turn.ensures.items (search rules) c.self.invariant.schedule in
    omega (arith, c.self.invariant.room, c.remove_turn.ensures.capacity)

pub invariant_of-self : goal.invariant_of-self
invariant_of-self c = record {
  schedule = IsSchedule-last c.self.inside.order.items _ _ c.self.inside.members.items _ c.remove_turn.ensures.items c.push_turn.ensures.items (search rules) c.self.invariant.schedule;
  room = omega (arith, c.self.invariant.room, c.remove_turn.ensures.capacity, c.push_turn.ensures.capacity);
}

pub returns-clause-shape : goal.returns-clause-shape
returns-clause-shape c =
    IsSchedule-last c.self.inside.order.items _ _ c.self.inside.members.items _ c.remove_turn.ensures.items c.push_turn.ensures.items (search rules) c.self.invariant.schedule
