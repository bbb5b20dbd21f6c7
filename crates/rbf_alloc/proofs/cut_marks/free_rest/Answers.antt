use Rattle.std.proofs.Common.{◌+◌, ◌&&◌, not, refl, arith}
use Rattle.rbf_alloc.specs.Own.{here, in_own, in_stretch}
use Rattle.rbf_alloc.proofs.OwnParts.{in_front, stretch_here}
use Rattle.rbf_alloc.proofs.ClearedMarks.{none_freed, then_freed, as_freed}
use Rattle.rbf_alloc.specs.Rest.{in_rest, in_rest_of}
use Rattle.rbf_alloc.proofs.Rests.{front_rest_here, rest_here_all, part_of_rest}
use Rattle.rbf_alloc.proofs.cut_marks.free_rest.Goals as goal

pub loop-i-init : goal.loop-i-init
loop-i-init c = none_freed c.args.map.now (here (λ x. in_front c.args.k c.args.cut.now.old 0 x && not (in_own c.args.k c.args.cut.now.kept x)) c.args.place) (λ x. refl)

pub free_stretch-requires-clause-there : goal.free_stretch-requires-clause-there
free_stretch-requires-clause-there c = stretch_here c.args.k c.args.place c.loop-i.i c.args.cut.now.old c.stretch.result c.stretch.ensures

pub free_stretch-requires-clause-in_map : goal.free_stretch-requires-clause-in_map
free_stretch-requires-clause-in_map c =
    part_of_rest c.args.k c.args.place c.loop-i.i c.args.cut.now c.stretch.result c.args.map.now c.loop-i.map (omega arith) c.stretch.ensures c.requires.in_map c.loop-i.invariant.clusters

pub loop-i-preserved : goal.loop-i-preserved
loop-i-preserved c =
    let part = c.stretch.result in
    let cut = c.args.cut.now in
    then_freed c.args.map.now c.loop-i.map c.free_stretch.new.map (here (λ x. in_front c.args.k cut.old c.loop-i.i x && not (in_own c.args.k cut.kept x)) c.args.place) (in_rest_of c.args.k cut part)
    (here (λ x. in_front c.args.k cut.old (c.loop-i.i + 1) x && not (in_own c.args.k cut.kept x)) c.args.place)
    (λ x. front_rest_here c.args.k c.args.place c.loop-i.i x cut.old (in_own c.args.k cut.kept) part (omega arith) c.stretch.ensures) c.loop-i.invariant c.free_stretch.ensures

pub returns : goal.returns
returns c =
    let cut = c.args.cut.now in
    as_freed c.args.map.now c.loop-i.map (here (λ x. in_front c.args.k cut.old c.loop-i.i x && not (in_own c.args.k cut.kept x)) c.args.place) (here (in_rest c.args.k cut) c.args.place)
    (rest_here_all c.args.k c.args.place c.loop-i.i cut.old (in_own c.args.k cut.kept) (omega arith)) c.loop-i.invariant
