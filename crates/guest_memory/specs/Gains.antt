-- Blocks that are taken.
use Rattle.std.specs.Prelude.{◌≡◌, ◌≢◌, ℕ, ◌+◌, ◌==◌, List, length, map, count_by, All, AllPairs}
use Rattle.block_pool.specs.Blocks.{Blocks, IsFreeBlock, IsLive, reference_count, block_bytes}
use Rattle.proc_model.specs.Objects.{file_objects}
use Rattle.proc_model.specs.declared.group.BlockId.{BlockId}

-- the number of times that a block is among these
abbrev pub times_in : List BlockId → ℕ → ℕ
times_in group block = count_by (λ (id : BlockId). id.0 == block) group

-- Blocks that were free, all different, are named once more and have these bytes, block by block. The other counts are
-- unchanged, and so are the bytes of each block that was live.
pub record GainsBlocks (before : Blocks) (group : List BlockId) (contents : List (List ℕ)) (after : Blocks) : Type 0
  where
    pub were_free : All (λ id. IsFreeBlock before id.0) group
    pub different : AllPairs (λ a b. a ≢ b) group
    pub holds : map (λ (id : BlockId). block_bytes after id.0) group ≡ contents
    pub as_many : length after.counts ≡ length before.counts
    pub counts : (block : ℕ) → reference_count after block ≡ reference_count before block + times_in group block
    pub kept : (block : ℕ) → IsLive before block → block_bytes after block ≡ block_bytes before block

-- a file is in new blocks, with zeros after it in the last one
abbrev pub IsFileInBlocks : List ℕ → Blocks → List BlockId → Blocks → Type 0
IsFileInBlocks file before group after = GainsBlocks before group (file_objects file) after
