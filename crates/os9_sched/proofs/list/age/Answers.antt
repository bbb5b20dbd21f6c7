use Rattle.std.proofs.Common.{◌∙◌, sym, arith, map}
use Rattle.std.proofs.lemmas.List.{length-map, get_or-map, ext_get_or}
use Rattle.proc_model.specs.declared.turn.Turn.{Turn}
use Rattle.proc_model.specs.Turns.{aged}
use Rattle.os9_sched.specs.Members.{is_active_in, priority_in}
use Rattle.os9_sched.proofs.list.age.Goals as goal

pub returns : goal.returns
returns c =
    let d : Turn = record { process = record { 0 = 0 }; age = 0 } in
    ext_get_or d c.loop-turn.order (map (aged (is_active_in c.args.members.now) (priority_in c.args.members.now)) c.args.order.now)
    (omega (arith, length-map c.args.order.now (aged (is_active_in c.args.members.now) (priority_in c.args.members.now)), c.loop-turn.auto.order))
    (λ k h. c.loop-turn.invariant.done k d (omega (arith, c.loop-turn.auto.order)) ∙ sym
    (get_or-map (aged (is_active_in c.args.members.now) (priority_in c.args.members.now)) c.args.order.now k d d
    (omega (arith, c.loop-turn.auto.order))))
