use Rattle.std.proofs.Common.{◌∙◌, sym, arith, map, option_map, None}
use Rattle.std.proofs.lemmas.List.{length-map, get_or-map, ext_get_or}
use Rattle.os9_sched.specs.Waits.{woken_at}
use Rattle.os9_sched.proofs.list.wake_due.Goals as goal

pub returns : goal.returns
returns c =
    ext_get_or None c.loop-place.members (map (option_map (woken_at c.args.tick)) c.args.members.now)
    (omega (arith, length-map c.args.members.now (option_map (woken_at c.args.tick)), c.loop-place.auto.members))
    (λ k h. c.loop-place.invariant.done k (omega (arith, c.loop-place.auto.members)) ∙ sym
    (get_or-map (option_map (woken_at c.args.tick)) c.args.members.now k None None
    (omega (arith, c.loop-place.auto.members))))
