use Rattle.std.proofs.Common.{arith}
use Rattle.block_pool.proofs.FreeLists.{IsFreeList-all}
use Rattle.block_pool.proofs.pool.all_blocks.Goals as goal

pub returns-clause-listed : goal.returns-clause-listed
returns-clause-listed c = IsFreeList-all c.loop-block.free.items c.args.blocks (omega arith) (λ k d within. c.loop-block.invariant.numbered k d (omega arith))
