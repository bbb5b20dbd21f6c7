use Rattle.std.proofs.Common.{◌+◌, List, Option, None, ◌∷◌, [], ◌++◌, take, drop, set, arith, ap, ◌∙◌}
use Rattle.std.proofs.lemmas.List.{take_more_set, replicate_more, drop-set-lt}
use Rattle.std.proofs.lemmas.Grind.{drop_more_same}
use Rattle.proc_model.specs.declared.group.BlockId.{BlockId}
use Rattle.proc_model.specs.Slots.{blocks_in}
use Rattle.block_map.specs.TakenBlocks.{pool_after_giving}
use Rattle.block_map.proofs.Places.{at_rest}
use Rattle.block_map.proofs.Counts.{gives_next, gives_more}
use Rattle.block_map.proofs.Pools.{IsPool-given_all}
use Rattle.block_map.proofs.map.give_back.Goals as goal

pub give_place-requires : goal.give_place-requires
give_place-requires c = gives_next c.args.pool.now c.loop-place.pool c.args.places.now c.loop-place.places
    c.loop-place.place-index c.requires.live c.requires.once c.loop-place.invariant.kept c.loop-place.invariant.given

pub loop-place-preserved : goal.loop-place-preserved
loop-place-preserved c =
    let old = c.args.places.now in
    let places = c.loop-place.places in
    let i = c.loop-place.place-index in
    let none : Option BlockId = None in
    let write = ap (set places i) c.give_place.ensures.cleared in
    record {
      cleared = ap (take (i + 1)) write ∙ take_more_set places i none (omega arith) ∙ ap (λ (front : List (Option BlockId)). front ++ none ∷ []) c.loop-place.invariant.cleared ∙ replicate_more i none;
      kept = ap (drop (i + 1)) write ∙ drop-set-lt (i + 1) places i none (omega arith) ∙ drop_more_same places old i c.loop-place.invariant.kept;
      given = gives_more c.args.pool.now c.loop-place.pool c.give_place.new.pool old i c.loop-place-test.true c.loop-place.invariant.given
          (c.give_place.ensures.given ∙ ap (λ (place : Option BlockId). pool_after_giving c.loop-place.pool (blocks_in (place ∷ []))) (at_rest places old i c.loop-place.invariant.kept));
    }

pub returns-clause-pool : goal.returns-clause-pool
returns-clause-pool c = IsPool-given_all c.args.pool.now c.loop-place.pool (blocks_in (take c.loop-place.place-index c.args.places.now)) c.loop-place.invariant.given
