use Rattle.std.proofs.Common.{◌≡◌, arith}
use Rattle.std.proofs.lemmas.Bool.{some_since}
use Rattle.block_pool.specs.Blocks.{IsPool, IsFreeBlock, pool_after_take}
use Rattle.block_map.proofs.Counts.{no_zeros}
use Rattle.guest_memory.proofs.Gains.{Gains-written}
use Rattle.guest_memory.proofs.entering.load_block.Goals as goal

pub unwrap-id-requires : goal.unwrap-id-requires
unwrap-id-requires c =
    some_since c.take.result _ _ c.take.ensures.none (λ all. absurd (omega (arith, no_zeros c.args.pool.now.counts all)))

pub returns-clause-loaded : goal.returns-clause-loaded
returns-clause-loaded c =
    let pool = c.args.pool.now in
    let id = c.unwrap-id.result in
    let free : IsFreeBlock pool id.0 = rw c.unwrap-id.ensures at c.take.ensures.was_free in
    let took : c.take.new.self ≡ pool_after_take pool id.0 = rw c.unwrap-id.ensures at c.take.ensures.one_block in
    let shape : IsPool (pool_after_take pool id.0) = rw took at c.take.ensures.shape in
    rw (c.copy_in.ensures.bytes, took) (Gains-written pool id c.args.bytes.now free shape c.requires.short)
