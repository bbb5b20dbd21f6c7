use Rattle.std.proofs.Common.{◌≤◌, length, arith}
use Rattle.os9_sched.proofs.ScheduleLaws.{length-order}
use Rattle.os9_sched.proofs.sched.Sched.count.Goals as goal

pub overflow_cast-result : goal.overflow_cast-result
overflow_cast-result c =
    let few : length c.self.inside.order.items ≤ 33 =
    length-order c.self.inside.order.items c.self.inside.members.items c.self.invariant.schedule in
    omega (arith, few, c.len.ensures, c.self.inside.order.ok.0)
