use Rattle.rbf_alloc.specs.Own.{in_own}
use Rattle.rbf_alloc.proofs.Rests.{rest_freed_none, rest_freed_more, rest_freed_all, next_there, next_rest_in_map}
use Rattle.rbf_alloc.proofs.cut_marks.free_stretch.Goals as goal

pub loop-c-init : goal.loop-c-init
loop-c-init c = rest_freed_none (in_own c.args.k c.args.cut.now.kept) c.args.part.now c.args.map.now

pub free_if_given_up-requires-clause-there : goal.free_if_given_up-requires-clause-there
free_if_given_up-requires-clause-there c = next_there c.args.place c.args.part.now c.loop-c.c c.loop-c.invariant.begun c.loop-c-test.true c.requires.there

pub free_if_given_up-requires-clause-in_map : goal.free_if_given_up-requires-clause-in_map
free_if_given_up-requires-clause-in_map c given =
    next_rest_in_map (in_own c.args.k c.args.cut.now.kept) c.args.part.now c.args.map.now c.loop-c.map c.loop-c.c
    c.loop-c-test.true c.requires.in_map c.loop-c.invariant given

pub loop-c-preserved : goal.loop-c-preserved
loop-c-preserved c =
    rest_freed_more (in_own c.args.k c.args.cut.now.kept) c.args.part.now c.args.map.now c.loop-c.map
    c.free_if_given_up.new.map c.loop-c.c c.loop-c-test.true c.loop-c.invariant c.free_if_given_up.ensures

pub returns : goal.returns
returns c = rest_freed_all (in_own c.args.k c.args.cut.now.kept) c.args.part.now c.args.map.now c.loop-c.map c.loop-c.c c.loop-c-test.false c.loop-c.invariant
