use Rattle.std.proofs.Common.{arith}
use Rattle.rbf_alloc.proofs.OwnParts.{stretch_here}
use Rattle.rbf_alloc.proofs.Rests.{none_rest, none_rest_more, some_rest}
use Rattle.rbf_alloc.proofs.rest.CutSectors.first_in.Goals as goal

pub first_of-requires-clause-there : goal.first_of-requires-clause-there
first_of-requires-clause-there c = stretch_here c.args.k c.args.place c.loop-i.i c.args.self.now.old c.stretch-part.result c.stretch-part.ensures

pub loop-i-preserved : goal.loop-i-preserved
loop-i-preserved c = none_rest_more c.args.k c.args.place c.loop-i.i c.args.self.now c.stretch-part.result (omega arith) c.stretch-part.ensures c.in_default.ensures c.loop-i.invariant

pub returns : goal.returns
returns c = none_rest c.args.k c.args.place c.loop-i.i c.args.self.now (omega arith) c.loop-i.invariant
