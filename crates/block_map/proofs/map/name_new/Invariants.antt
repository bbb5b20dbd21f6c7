use Rattle.std.proofs.Common.{◌+◌, ◌≤◌, length, take}
use Rattle.block_pool.specs.Blocks.{free_block_count}
use Rattle.block_map.specs.TakenBlocks.{AreNewBlocks}
use Rattle.block_map.proofs.map.name_new.Given as goal

abbrev pub invariant-loop-place : goal.invariant-loop-place
invariant-loop-place l = record {
  new : AreNewBlocks (take l.place-index l.places) l.initial.pool l.pool;
  enough : length l.places ≤ l.place-index + free_block_count l.pool;
}
