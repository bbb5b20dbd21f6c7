use Rattle.std.proofs.Common.{List, Option, Some, ◌∷◌, [], ◌++◌, get_or, take, arith, sym, ap, ◌∙◌}
use Rattle.std.proofs.lemmas.List.{take_more, take_more_set, take_all, map_push, length-take-le}
use Rattle.std.proofs.lemmas.List.Sums.{fold_more}
use Rattle.proc_model.specs.declared.group.BlockId.{BlockId}
use Rattle.block_pool.specs.Blocks.{Blocks, reference_count, pool_after_share}
use Rattle.proc_model.specs.Slots.{filled_places}
use Rattle.block_map.specs.TakenBlocks.{pool_after_sharing}
use Rattle.block_map.proofs.Counts.{count_of-shared_all}
use Rattle.block_map.proofs.Pools.{IsPool-shared_all}
use Rattle.block_map.proofs.map.name_shared.Goals as goal

pub share-requires : goal.share-requires
share-requires c =
    let k = c.loop-k.k in
    let blocks = c.args.blocks.now in
    let none : BlockId = record { 0 = 0 } in
    let id = get_or blocks k none in
    let few = length-take-le k blocks (omega arith) in
    let now = ap (λ (pool : Blocks). reference_count pool id.0) c.loop-k.invariant.shared in
    let bounds = count_of-shared_all c.args.pool.now (take k blocks) id.0 in
    let live = c.requires.live k none c.loop-k-test.true in
    let countable = c.requires.countable k none c.loop-k-test.true in
    record {
      live = omega (arith, now, bounds.0, live);
      countable = omega (arith, now, bounds.1, countable, few);
    }

pub loop-k-preserved : goal.loop-k-preserved
loop-k-preserved c =
    let k = c.loop-k.k in
    let blocks = c.args.blocks.now in
    let none : BlockId = record { 0 = 0 } in
    let id = get_or blocks k none in
    record {
      named = take_more_set c.loop-k.places k (Some id) (omega arith) ∙ ap (λ (front : List (Option BlockId)). front ++ Some id ∷ []) c.loop-k.invariant.named
          ∙ sym (map_push (λ (block : BlockId). Some block) (take k blocks) id) ∙ ap filled_places (sym (take_more blocks k none c.loop-k-test.true));
      shared = c.share.ensures.one_count ∙ ap (λ (pool : Blocks). pool_after_share pool id.0) c.loop-k.invariant.shared
          ∙ sym (fold_more (λ (pool : Blocks) (block : BlockId). pool_after_share pool block.0) c.args.pool.now blocks k none c.loop-k-test.true);
    }

pub returns : goal.returns
returns c =
    let k = c.loop-k.k in
    let blocks = c.args.blocks.now in
    let whole = take_all k blocks c.loop-k-test.false in
    record {
      named = sym (take_all k c.loop-k.places (omega arith)) ∙ c.loop-k.invariant.named ∙ ap filled_places whole;
      shared = c.loop-k.invariant.shared ∙ ap (pool_after_sharing c.args.pool.now) whole;
      pool = IsPool-shared_all c.args.pool.now c.loop-k.pool (take k blocks) c.loop-k.invariant.shared;
    }
