use Rattle.std.proofs.Common.{refl, arith}
use Rattle.rbf_model.specs.Walk.{entry_has_name}
use Rattle.rbf_walk.proofs.Places.{none_one_more, first_here}
use Rattle.rbf_walk.proofs.sector.named_in.Goals as goal

pub loop-i-preserved : goal.loop-i-preserved
loop-i-preserved c =
    none_one_more (entry_has_name c.args.name.now) c.args.sector.now _ c.loop-i.i _ c.loop-i.invariant refl c.has_name_at.ensures c.if-has_name_at.false

pub returns-then-has_name_at : goal.returns-then-has_name_at
returns-then-has_name_at c =
    first_here (entry_has_name c.args.name.now) c.args.sector.now _ c.args.count c.loop-i.i _ c.loop-i-test.true c.loop-i.invariant refl c.has_name_at.ensures c.if-has_name_at.true

pub returns-then-none_alike : goal.returns-then-none_alike
returns-then-none_alike c k low = c.none_alike.ensures c.if-none_alike.true k (omega (arith, c.requires))
