-- The names are the parts; a part that is not a name is one of them.
use Rattle.std.proofs.Common.{◌∙◌}
use Rattle.vol_tools.proofs.Named.{bad_part, names_more, named_more, all_named}
use Rattle.vol_tools.proofs.path.names_of.Goals as goal

pub loop-part-preserved : goal.loop-part-preserved
loop-part-preserved c =
    let i = c.loop-part.invariant in
    record {
      are = c.in_ok-push-in-Some.ensures.items ∙ names_more c.args.parts.now c.loop-part.part-index _ c.loop-part.names.items _ c.loop-part-test.true i.are c.in-Some.ensures;
      named = named_more c.args.parts.now c.loop-part.part-index _ _ c.loop-part-test.true i.named c.in-Some.ensures;
    }

pub returns : goal.returns
returns c = all_named c.args.parts.now c.loop-part.part-index c.loop-part.names.items c.loop-part-test.false c.loop-part.invariant.are c.loop-part.invariant.named

pub returns-in-None : goal.returns-in-None
returns-in-None c = bad_part c.args.parts.now c.loop-part.part-index _ c.loop-part-test.true c.in-None.ensures
