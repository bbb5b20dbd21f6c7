use Rattle.rbf_alloc.proofs.ClearedMarks.{cleared_none, cleared_more, cleared_all}
use Rattle.rbf_alloc.proofs.bits.clear_stretch.Goals as goal

pub loop-c-init : goal.loop-c-init
loop-c-init c = cleared_none c.args.part.now c.args.bytes.now

pub loop-c-preserved : goal.loop-c-preserved
loop-c-preserved c = cleared_more c.args.part.now c.args.bytes.now c.loop-c.bytes c.clear_mark.new.bytes c.loop-c.c c.loop-c-test.true c.loop-c.invariant c.clear_mark.ensures

pub returns : goal.returns
returns c = cleared_all c.args.part.now c.args.bytes.now c.loop-c.bytes c.loop-c.c c.loop-c-test.false c.loop-c.invariant
