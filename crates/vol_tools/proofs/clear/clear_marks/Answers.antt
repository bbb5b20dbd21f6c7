-- One more is free, and in the end all are.
use Rattle.vol_tools.proofs.Freed.{begun, byte_within, freed_more, freed_all}
use Rattle.vol_tools.proofs.clear.clear_marks.Goals as goal

pub loop-c-init : goal.loop-c-init
loop-c-init c = begun c.args.image.now.items c.args.lost.now c.requires

pub clear_mark-requires : goal.clear_mark-requires
clear_mark-requires c = byte_within c.args.image.now.items c.args.lost.now c.loop-c.c-index c.loop-c.image.items c.loop-c.invariant c.loop-c-test.true

pub loop-c-preserved : goal.loop-c-preserved
loop-c-preserved c = freed_more c.args.image.now.items c.args.lost.now c.loop-c.c-index c.loop-c.image.items c.loop-c.invariant c.loop-c-test.true c.clear_mark.new.image.items c.clear_mark.ensures

pub returns : goal.returns
returns c = freed_all c.args.image.now.items c.args.lost.now c.loop-c.c-index c.loop-c.image.items c.loop-c-test.false c.loop-c.invariant
