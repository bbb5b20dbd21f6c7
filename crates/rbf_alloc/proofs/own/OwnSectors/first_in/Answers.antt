use Rattle.std.proofs.Common.{arith}
use Rattle.rbf_alloc.proofs.OwnParts.{none_here, none_more, first_here}
use Rattle.rbf_alloc.proofs.own.OwnSectors.first_in.Goals as goal

pub returns-then-part : goal.returns-then-part
returns-then-part c = first_here c.args.k c.args.place c.loop-i.i c.args.self.now c.stretch-part.result (omega arith) c.stretch-part.ensures c.if-part.true

pub loop-i-preserved : goal.loop-i-preserved
loop-i-preserved c = none_more c.args.k c.args.place c.loop-i.i c.args.self.now c.stretch-part.result c.loop-i.invariant c.stretch-part.ensures c.if-part.false

pub returns : goal.returns
returns c = none_here c.args.k c.args.self.now c.args.place (λ i x low. c.loop-i.invariant i x (omega arith))
