-- A region of blocks of 8,192 bytes, each with a count of its references. This project's own: the real system's block
-- map (Level Two manual, "Memory management") marks a block as used or not.
use Rattle.std.specs.Prelude.{◌≡◌, ℕ, ◌+◌, ◌-◌, ◌<◌, ◌≤◌, ◌==◌, nat_lt, Bool, List, [], ◌++◌, length, take, drop, replicate, count_by, All, slice_index, slice_index_or, slice_set}

-- the blocks of a pool: the number of references to each, and the bytes of each
pub record Blocks : Type 0 where
  pub counts : List ℕ
  pub bytes : List (List ℕ)

-- what always holds of a pool: 8 to 256 blocks, each with a count and 8,192 bytes
pub record IsPool (pool : Blocks) : Type 0 where
  pub least : 8 ≤ length pool.counts
  pub most : length pool.counts ≤ 256
  pub whole : length pool.bytes ≡ length pool.counts
  pub full : All (λ bytes. length bytes ≡ 8192) pool.bytes

-- the number of references to a block
abbrev pub reference_count : Blocks → ℕ → ℕ
reference_count pool block = slice_index pool.counts block

-- a block that something names
abbrev pub IsLive : Blocks → ℕ → Type 0
IsLive pool block = 0 < reference_count pool block

-- the test for it
abbrev pub is_live : Blocks → ℕ → Bool
is_live pool block = nat_lt 0 (reference_count pool block)

-- a block of the pool that nothing names
abbrev pub IsFreeBlock : Blocks → ℕ → Type 0
IsFreeBlock pool block = (block < length pool.counts) × (reference_count pool block ≡ 0)

-- the bytes of a block
abbrev pub block_bytes : Blocks → ℕ → List ℕ
block_bytes pool block = slice_index_or pool.bytes block []

-- the number of blocks that nothing names
abbrev pub free_block_count : Blocks → ℕ
free_block_count pool = count_by (λ count. count == 0) pool.counts

-- the pool with another count of one block
abbrev pub with_reference_count : Blocks → ℕ → ℕ → Blocks
with_reference_count pool block count = record pool { counts = slice_set pool.counts block count }

-- the pool with other bytes in one block
abbrev pub with_block_bytes : Blocks → ℕ → List ℕ → Blocks
with_block_bytes pool block bytes = record pool { bytes = slice_set pool.bytes block bytes }

-- the pool after a free block was taken: it is named once, and its bytes are zeros
abbrev pub pool_after_take : Blocks → ℕ → Blocks
pool_after_take pool block =
    with_block_bytes (with_reference_count pool block 1) block (replicate (length (block_bytes pool block)) 0)

-- the pool with one more reference to a block
abbrev pub pool_after_share : Blocks → ℕ → Blocks
pool_after_share pool block = with_reference_count pool block (reference_count pool block + 1)

-- the pool with one reference less to a block
abbrev pub pool_after_give : Blocks → ℕ → Blocks
pool_after_give pool block = with_reference_count pool block (reference_count pool block - 1)

-- the list with these bytes from one place on
abbrev pub overwritten : List ℕ → ℕ → List ℕ → List ℕ
overwritten bytes at new = take at bytes ++ (new ++ drop (at + length new) bytes)
