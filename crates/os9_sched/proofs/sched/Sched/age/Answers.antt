use Rattle.std.proofs.Common.{◌≡◌, ◌==◌, true, arith}
use Rattle.proc_model.specs.declared.turn.Turn.{Turn}
use Rattle.proc_model.specs.Turns.{has_turn}
use Rattle.os9_sched.proofs.TurnLists.{IsSome-find}
use Rattle.os9_sched.proofs.sched.Sched.age.Goals as goal

pub unwrap-requires : goal.unwrap-requires
unwrap-requires c =
    let has : has_turn c.self.inside.order.items c.args.p.0 ≡ true = grind (arith, c.self.invariant.schedule.same c.args.p.0) in
    let found = IsSome-find (λ (t : Turn). t.process.0 == c.args.p.0) c.self.inside.order.items has in
    grind (arith, found)
