use Rattle.std.proofs.Common.{◌≡◌, Option, None, take, drop, replicate}
use Rattle.proc_model.specs.declared.group.BlockId.{BlockId}
use Rattle.proc_model.specs.Slots.{blocks_in}
use Rattle.block_map.specs.TakenBlocks.{pool_after_giving}
use Rattle.block_map.proofs.map.give_back.Given as goal

abbrev pub invariant-loop-place : goal.invariant-loop-place
invariant-loop-place l = record {
  cleared : take l.place-index l.places ≡ replicate {A = Option BlockId} l.place-index None;
  kept : drop l.place-index l.places ≡ drop l.place-index l.initial.places;
  given : l.pool ≡ pool_after_giving l.initial.pool (blocks_in (take l.place-index l.initial.places));
}
