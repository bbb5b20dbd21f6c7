use Rattle.std.proofs.Common.{false, refl}
use Rattle.rbf_model.specs.Walk.{entry_has_name}
use Rattle.rbf_walk.proofs.Endings.{fails_test}
use Rattle.rbf_walk.proofs.Places.{none_one_more}
use Rattle.rbf_walk.proofs.sector.none_alike.Goals as goal

pub loop-i-preserved : goal.loop-i-preserved
loop-i-preserved c =
    none_one_more (entry_has_name c.args.name.now) c.args.sector.now _ c.loop-i.i false c.loop-i.invariant refl (fails_test _ c.pair_alike.result c.pair_alike.ensures c.if-pair_alike.false) refl
