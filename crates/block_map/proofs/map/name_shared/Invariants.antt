use Rattle.std.proofs.Common.{◌≡◌, take}
use Rattle.proc_model.specs.Slots.{filled_places}
use Rattle.block_map.specs.TakenBlocks.{pool_after_sharing}
use Rattle.block_map.proofs.map.name_shared.Given as goal

abbrev pub invariant-loop-k : goal.invariant-loop-k
invariant-loop-k l = record {
  named : take l.k l.places ≡ filled_places (take l.k l.blocks);
  shared : l.pool ≡ pool_after_sharing l.initial.pool (take l.k l.blocks);
}
