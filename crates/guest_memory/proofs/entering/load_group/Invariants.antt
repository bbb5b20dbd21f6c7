use Rattle.std.proofs.Common.{◌≡◌, ◌+◌, ◌*◌, ◌≤◌, length, take, drop, map}
use Rattle.std.specs.List.{range_with_len}
use Rattle.std.specs.Slice.Iter.{chunks_rest, chunks_size}
use Rattle.block_pool.specs.Blocks.{IsPool, free_block_count}
use Rattle.proc_model.specs.Objects.{file_block, file_blocks}
use Rattle.guest_memory.specs.Gains.{GainsBlocks}
use Rattle.guest_memory.proofs.entering.load_group.Given as goal

-- the first blocks of the file are loaded, and the others are to come
abbrev pub invariant-loop-part : goal.invariant-loop-part
invariant-loop-part l = record {
  loaded : GainsBlocks l.initial.pool (take l.len l.ids) (map (file_block l.file) (range_with_len 0 l.len)) l.pool;
  room : free_block_count l.pool + l.len ≡ free_block_count l.initial.pool;
  shape : IsPool l.pool;
  places : length l.ids ≡ 7;
  within : l.len ≤ file_blocks l.file;
  rest : chunks_rest l.part-iterator ≡ drop (8192 * l.len) l.file;
  size : chunks_size l.part-iterator ≡ 8192;
}
