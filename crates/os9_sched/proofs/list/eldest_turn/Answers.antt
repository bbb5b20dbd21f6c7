use Rattle.std.proofs.Common.{◌≡◌, ◌∙◌, rules}
use Rattle.std.proofs.lemmas.List.{take_all}
use Rattle.proc_model.specs.Turns.{ready_turns}
use Rattle.os9_sched.specs.Members.{is_active_in}
use Rattle.os9_sched.proofs.OnePass.{one-pass}
use Rattle.os9_sched.proofs.list.eldest_turn.Goals as goal

pub returns-clause-eldest : goal.returns-clause-eldest
returns-clause-eldest c =
    let all = take_all c.loop-turn.turn-index c.args.order.now (search rules) in
    rw all at c.loop-turn.invariant.eldest
    ∙ one-pass (ready_turns (is_active_in c.args.members.now) c.args.order.now)
