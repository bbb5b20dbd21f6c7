use Rattle.std.proofs.Common.{◌≡◌, rules, arith}
use Rattle.cpu_model.specs.declared.stop.Stop.TheVariants.{Next}
use Rattle.cpu6809.proofs.Following.{one_more_follows}
use Rattle.cpu6809.proofs.execution.run.Goals as goal

pub loop-followed-preserved : goal.loop-followed-preserved
loop-followed-preserved g c =
    let next : c.step-stop.result ≡ Next = search rules in
    let step = rw next at c.step-stop.ensures.step in
    record {
      follow = one_more_follows _ _ _ _ _ _ _ c.loop-followed.invariant.follow step;
      most = omega arith;
      beside = search rules;
    }
