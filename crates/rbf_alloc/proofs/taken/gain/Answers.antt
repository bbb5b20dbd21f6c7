use Rattle.std.specs.Prelude.{replicate}
use Rattle.std.proofs.Common.{false, subst, arith}
use Rattle.rbf_alloc.specs.Gained.{IsGivenBack}
use Rattle.rbf_alloc.proofs.Clear.{some_free}
use Rattle.rbf_alloc.proofs.Gaining.{none_yet, one_more, too_many, all_gained, places_of, all_back, sizes_same, places_same, none_written}
use Rattle.rbf_alloc.proofs.taken.gain.Goals as goal

pub loop-taken-init : goal.loop-taken-init
loop-taken-init c = none_yet c.args.k c.args.count c.args.map.now c.args.segs.now c.requires.sizes c.requires.few c.requires.apart

pub gain_one-requires-clause-some : goal.gain_one-requires-clause-some
gain_one-requires-clause-some c = some_free c.loop-taken.map (let counted = c.loop-taken.invariant.counted in omega arith)

pub give_back-requires-clause-sizes : goal.give_back-requires-clause-sizes
give_back-requires-clause-sizes c = sizes_same c.args.k _ _ c.in-Err.ensures.back c.loop-taken.invariant.sizes

pub give_back-requires-clause-places : goal.give_back-requires-clause-places
give_back-requires-clause-places c =
    places_same c.args.k _ _ _ _ _ _ c.in-Err.ensures.back c.in-Err.ensures.segs_kept
    (places_of _ _ _ _ _ _ _ c.loop-taken.invariant c.sectors-first.result c.sectors-first.ensures.count c.sectors-first.ensures.few)

pub returns-in-Err-clause-runs : goal.returns-in-Err-clause-runs
returns-in-Err-clause-runs c is =
    too_many _ _ _ _ _ _ _ c.loop-taken.invariant (omega arith) c.in-Err.ensures.full

pub returns-in-Err-clause-back : goal.returns-in-Err-clause-back
returns-in-Err-clause-back c =
    all_back _ _ _ _ _ _ _ c.loop-taken.invariant c.sectors-first.result (replicate 256 false) c.gain_one.new.map c.give_back.new.map c.sectors-first.ensures.count (none_written 256)
    c.in-Err.ensures.back
    (subst (λ xs. IsGivenBack c.args.k xs c.sectors-first.result c.loop-taken.taken (replicate 256 false) c.gain_one.new.map c.give_back.new.map) c.in-Err.ensures.segs_kept c.give_back.ensures)

pub loop-taken-preserved : goal.loop-taken-preserved
loop-taken-preserved c = one_more _ _ _ _ _ _ _ c.loop-taken.invariant _ _ c.in-Ok.ensures.ok

pub returns-clause-ok : goal.returns-clause-ok
returns-clause-ok c = all_gained _ _ _ _ _ _ _ c.loop-taken.invariant (omega arith)
