use Rattle.std.proofs.Common.{◌≡◌, ℕ, ◌<◌, ◌≤◌, length, get_or}
use Rattle.std.specs.Vec.{vec_capacity}
use Rattle.proc_model.specs.declared.group.BlockId.{BlockId}
use Rattle.block_pool.proofs.pool.all_blocks.Given as goal

abbrev pub invariant-loop-block : goal.invariant-loop-block
invariant-loop-block l = record {
  counted : length l.free.items ≡ l.block;
  numbered : (k : ℕ) (d : BlockId) → k < l.block → (get_or l.free.items k d).0 ≡ k;
  room : l.blocks ≤ vec_capacity l.free;
}
