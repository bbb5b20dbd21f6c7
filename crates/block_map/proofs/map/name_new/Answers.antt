use Rattle.std.proofs.Common.{arith, [], refl, subst, ◌<◌}
use Rattle.std.proofs.lemmas.List.{length-set, take_all}
use Rattle.block_pool.specs.Blocks.{free_block_count}
use Rattle.block_map.specs.TakenBlocks.{AreNewBlocks}
use Rattle.block_map.proofs.Counts.{AreNew-more}
use Rattle.block_map.proofs.map.name_new.Goals as goal

pub loop-place-init : goal.loop-place-init
loop-place-init c = record {
  new = record { blocks = []; named = refl; taken = refl };
  enough = omega arith;
}

pub loop-place-preserved : goal.loop-place-preserved
loop-place-preserved c =
    let places = c.loop-place.places in
    let i = c.loop-place.place-index in
    let some : 0 < free_block_count c.loop-place.pool = omega arith in
    let more = AreNew-more places i c.args.pool.now c.loop-place.pool c.take.new.self c.take.result (omega arith)
    c.take.ensures.none c.take.ensures.was_free c.take.ensures.one_block some c.loop-place.invariant.new in
    record {
      new = more.0;
      enough = omega (arith, length-set places i c.take.result, more.1);
    }

pub returns : goal.returns
returns c = subst (λ places. AreNewBlocks places c.args.pool.now c.loop-place.pool) (take_all c.loop-place.place-index c.loop-place.places (omega arith)) c.loop-place.invariant.new
