use Rattle.std.proofs.Common.{refl, arith}
use Rattle.rbf_alloc.specs.Own.{in_own, in_stretch}
use Rattle.rbf_alloc.proofs.OwnParts.{in_front, front_in, front_all, stretch_here}
use Rattle.rbf_alloc.proofs.ClearedMarks.{none_cleared, then_cleared, as_cleared}
use Rattle.rbf_alloc.proofs.bits.clear_own.Goals as goal

pub loop-i-init : goal.loop-i-init
loop-i-init c = none_cleared c.args.place c.args.bytes.now (in_front c.args.k c.args.own.now 0) (λ x. refl)

pub loop-i-preserved : goal.loop-i-preserved
loop-i-preserved c =
    let part = c.stretch.result in
    then_cleared c.args.place c.args.bytes.now c.loop-i.bytes c.clear_stretch.new.bytes (in_front c.args.k c.args.own.now c.loop-i.i) (in_stretch part) (in_front c.args.k c.args.own.now _)
    (λ x there. front_in c.args.k c.args.place c.loop-i.i x c.args.own.now part (omega arith) c.stretch.ensures there) c.loop-i.invariant
    (c.clear_stretch.ensures c.args.place (stretch_here c.args.k c.args.place c.loop-i.i c.args.own.now part c.stretch.ensures))

pub returns : goal.returns
returns c =
    as_cleared c.args.place c.args.bytes.now c.loop-i.bytes (in_front c.args.k c.args.own.now c.loop-i.i)
    (in_own c.args.k c.args.own.now) (λ x there. front_all c.args.k c.args.own.now c.loop-i.i x (omega arith))
    c.loop-i.invariant
