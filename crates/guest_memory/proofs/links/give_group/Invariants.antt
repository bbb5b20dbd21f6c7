use Rattle.std.proofs.Common.{◌≡◌, take}
use Rattle.block_map.specs.TakenBlocks.{group_blocks, pool_after_giving}
use Rattle.block_pool.specs.Blocks.{IsPool}
use Rattle.guest_memory.proofs.links.give_group.Given as goal

abbrev pub invariant-loop-id : goal.invariant-loop-id
invariant-loop-id l = record {
  given : l.pool ≡ pool_after_giving l.initial.pool (take l.id-index (group_blocks l.group));
  shape : IsPool l.initial.pool → IsPool l.pool;
}
