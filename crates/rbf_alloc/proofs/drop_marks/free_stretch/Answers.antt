use Rattle.rbf_alloc.proofs.ClearedMarks.{freed_none, freed_more, freed_all, next_in_map}
use Rattle.rbf_alloc.proofs.drop_marks.free_stretch.Goals as goal

pub loop-c-init : goal.loop-c-init
loop-c-init c = freed_none c.args.part.now c.args.map.now

pub free_one-requires : goal.free_one-requires
free_one-requires c = next_in_map c.args.part.now c.args.map.now c.loop-c.map c.loop-c.c c.loop-c-test.true c.requires c.loop-c.invariant

pub loop-c-preserved : goal.loop-c-preserved
loop-c-preserved c = freed_more c.args.part.now c.args.map.now c.loop-c.map c.free_one.new.map c.loop-c.c c.loop-c-test.true c.loop-c.invariant c.free_one.ensures

pub returns : goal.returns
returns c = freed_all c.args.part.now c.args.map.now c.loop-c.map c.loop-c.c c.loop-c-test.false c.loop-c.invariant
