use Rattle.std.proofs.Common.{◌≡◌, Some, rules}
use Rattle.proc_model.specs.Turns.{ready_turns, eldest}
use Rattle.os9_sched.specs.Members.{is_active_in}
use Rattle.os9_sched.proofs.ScheduleLaws.{two_steps}
use Rattle.os9_sched.proofs.sched.Sched.dispatch.Goals as goal

pub returns-in-Some-clause-schedule : goal.returns-in-Some-clause-schedule
returns-in-Some-clause-schedule c =
    let is_chosen : eldest (ready_turns (is_active_in c.args.self.now.members) c.args.self.now.order) ≡ Some c.in-Some.p = search rules in
    two_steps c.args.self.now c.grow_older.new.self _ c.in-Some.p is_chosen c.grow_older.ensures.schedule c.put_last.ensures.schedule
