use Rattle.rbf_alloc.specs.Own.{in_own}
use Rattle.rbf_alloc.proofs.Rests.{rest_cleared_none, rest_cleared_more, rest_cleared_all, next_there}
use Rattle.rbf_alloc.proofs.cut_bits.clear_stretch.Goals as goal

pub loop-c-init : goal.loop-c-init
loop-c-init c = rest_cleared_none (in_own c.args.k c.args.cut.now.kept) c.args.place c.args.part.now c.args.bytes.now

pub clear_one-requires-clause-there : goal.clear_one-requires-clause-there
clear_one-requires-clause-there c = next_there c.args.place c.args.part.now c.loop-c.c c.loop-c.invariant.begun c.loop-c-test.true c.requires.there

pub loop-c-preserved : goal.loop-c-preserved
loop-c-preserved c =
    rest_cleared_more (in_own c.args.k c.args.cut.now.kept) c.args.place c.args.part.now c.args.bytes.now c.loop-c.bytes
    c.clear_one.new.bytes c.loop-c.c c.loop-c-test.true c.loop-c.invariant c.clear_one.ensures

pub returns : goal.returns
returns c = rest_cleared_all (in_own c.args.k c.args.cut.now.kept) c.args.place c.args.part.now c.args.bytes.now c.loop-c.bytes c.loop-c.c c.loop-c-test.false c.loop-c.invariant
