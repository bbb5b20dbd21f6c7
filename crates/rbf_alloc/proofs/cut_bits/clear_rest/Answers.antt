use Rattle.std.proofs.Common.{◌+◌, ◌&&◌, not, ap, refl, arith}
use Rattle.rbf_alloc.specs.Own.{in_own, in_stretch}
use Rattle.rbf_alloc.proofs.OwnParts.{in_front, front_all, stretch_here}
use Rattle.rbf_alloc.proofs.ClearedMarks.{none_cleared, then_cleared, as_cleared}
use Rattle.rbf_alloc.specs.Rest.{in_rest, in_rest_of}
use Rattle.rbf_alloc.proofs.Rests.{front_rest}
use Rattle.rbf_alloc.proofs.cut_bits.clear_rest.Goals as goal

pub loop-i-init : goal.loop-i-init
loop-i-init c = none_cleared c.args.place c.args.bytes.now (λ x. in_front c.args.k c.args.cut.now.old 0 x && not (in_own c.args.k c.args.cut.now.kept x)) (λ x. refl)

pub clear_stretch-requires-clause-there : goal.clear_stretch-requires-clause-there
clear_stretch-requires-clause-there c = stretch_here c.args.k c.args.place c.loop-i.i c.args.cut.now.old c.stretch.result c.stretch.ensures

pub loop-i-preserved : goal.loop-i-preserved
loop-i-preserved c =
    let part = c.stretch.result in
    let cut = c.args.cut.now in
    then_cleared c.args.place c.args.bytes.now c.loop-i.bytes c.clear_stretch.new.bytes
    (λ x. in_front c.args.k cut.old c.loop-i.i x && not (in_own c.args.k cut.kept x)) (in_rest_of c.args.k cut part)
    (λ x. in_front c.args.k cut.old (c.loop-i.i + 1) x && not (in_own c.args.k cut.kept x))
    (λ x there. front_rest c.args.k c.args.place c.loop-i.i x cut.old (in_own c.args.k cut.kept) part (omega arith) c.stretch.ensures there) c.loop-i.invariant c.clear_stretch.ensures

pub returns : goal.returns
returns c =
    let cut = c.args.cut.now in
    as_cleared c.args.place c.args.bytes.now c.loop-i.bytes (λ x. in_front c.args.k cut.old c.loop-i.i x && not (in_own c.args.k cut.kept x)) (in_rest c.args.k cut)
    (λ x there. ap (λ t. t && not (in_own c.args.k cut.kept x)) (front_all c.args.k cut.old c.loop-i.i x (omega arith))) c.loop-i.invariant
