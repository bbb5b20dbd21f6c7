use Rattle.std.proofs.Common.{refl, arith}
use Rattle.rbf_alloc.specs.Own.{here, in_own, in_stretch}
use Rattle.rbf_alloc.proofs.OwnParts.{in_front, front_here, here_all, stretch_in_map}
use Rattle.rbf_alloc.proofs.ClearedMarks.{none_freed, then_freed, as_freed}
use Rattle.rbf_alloc.proofs.drop_marks.free_own.Goals as goal

pub loop-i-init : goal.loop-i-init
loop-i-init c = none_freed c.args.map.now (here (in_front c.args.k c.args.own.now 0) c.args.place) (λ x. refl)

pub free_stretch-requires : goal.free_stretch-requires
free_stretch-requires c =
    stretch_in_map c.args.k c.args.place c.loop-i.i c.args.own.now c.stretch.result c.args.map.now c.loop-i.map (omega arith) c.stretch.ensures c.requires.in_map c.loop-i.invariant.clusters

pub loop-i-preserved : goal.loop-i-preserved
loop-i-preserved c =
    let part = c.stretch.result in
    then_freed c.args.map.now c.loop-i.map c.free_stretch.new.map
    (here (in_front c.args.k c.args.own.now c.loop-i.i) c.args.place) (in_stretch part)
    (here (in_front c.args.k c.args.own.now _) c.args.place)
    (λ x. front_here c.args.k c.args.place c.loop-i.i x c.args.own.now part (omega arith) c.stretch.ensures) c.loop-i.invariant c.free_stretch.ensures

pub returns : goal.returns
returns c =
    as_freed c.args.map.now c.loop-i.map (here (in_front c.args.k c.args.own.now c.loop-i.i) c.args.place)
    (here (in_own c.args.k c.args.own.now) c.args.place)
    (here_all c.args.k c.args.place c.loop-i.i c.args.own.now (omega arith)) c.loop-i.invariant
