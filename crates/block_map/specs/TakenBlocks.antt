-- What the calls on a map do to the pool.
use Rattle.std.specs.Prelude.{◌≡◌, ◌≢◌, ℕ, ◌<◌, ◌≤◌, List, [], ◌∷◌, All, AllPairs, length, take, fold, Option, Some}
use Rattle.block_pool.specs.Blocks.{Blocks, IsLive, IsFreeBlock, reference_count, pool_after_take, pool_after_share, pool_after_give}
use Rattle.block_pool.specs.declared.pool.TheConstants.{MOST_SHARED}
use Rattle.proc_model.specs.declared.group.BlockId.{BlockId}
use Rattle.proc_model.specs.declared.group.Group.{Group}
use Rattle.proc_model.specs.Slots.{Slots, IsHighestFreeRun, NamesBlock, block_at, filled_places, with_group, with_low}

-- these blocks are taken one after another, and each is free when it is taken
abbrev pub TakesBlocks : Blocks → List BlockId → Blocks → Type 0
TakesBlocks pool [] after = after ≡ pool
TakesBlocks pool (id ∷ ids) after = IsFreeBlock pool id.0 × TakesBlocks (pool_after_take pool id.0) ids after

-- the pool with one more reference to each of these blocks
abbrev pub pool_after_sharing : Blocks → List BlockId → Blocks
pool_after_sharing pool ids = fold (λ blocks id. pool_after_share blocks id.0) pool ids

-- the pool with one reference less to each of these blocks
abbrev pub pool_after_giving : Blocks → List BlockId → Blocks
pool_after_giving pool ids = fold (λ blocks id. pool_after_give blocks id.0) pool ids

-- each block that the map names is live
abbrev pub NamesLiveBlocks : Slots BlockId → Blocks → Type 0
NamesLiveBlocks slots pool = (slot : ℕ) (id : BlockId) → block_at slots slot ≡ Some id → IsLive pool id.0

-- places that name new blocks
pub record AreNewBlocks (places : List (Option BlockId)) (before after : Blocks) : Type 0 where
  pub blocks : List BlockId
  pub named : places ≡ filled_places blocks
  pub taken : TakesBlocks before blocks after

-- the blocks of a group, in order
abbrev pub group_blocks : Group → List BlockId
group_blocks group = take group.len group.blocks

-- this many new blocks are in the slots that follow the low area
pub record GainsLow (len : ℕ) (old : Slots BlockId) (before : Blocks) (new : Slots BlockId) (after : Blocks) : Type 0
  where
    pub blocks : List BlockId
    pub all : length blocks ≡ len
    pub taken : TakesBlocks before blocks after
    pub low : new ≡ with_low old blocks

-- a group that may be added to the map
pub record MayMap (group : Group) (slots : Slots BlockId) (pool : Blocks) : Type 0 where
  -- it has at least one block
  pub some : 1 ≤ group.len
  -- its blocks are all different
  pub different : AllPairs (λ a b. a ≢ b) (group_blocks group)
  -- each of them is live
  pub group_live : All (λ id. IsLive pool id.0) (group_blocks group)
  -- each can be named once more
  pub countable : All (λ id. reference_count pool id.0 < MOST_SHARED) (group_blocks group)
  -- the map names none of them yet
  pub unnamed : All (λ id. NamesBlock slots id → ⊥) (group_blocks group)

-- the group is in the map from the slot `first` on
pub record GainsGroup (group : Group) (old : Slots BlockId) (before : Blocks) (new : Slots BlockId) (after : Blocks)
    (first : ℕ) : Type 0 where
  -- the highest free run of its length begins there
  pub highest : IsHighestFreeRun old group.len first
  -- its slots name the blocks in order, and all others are unchanged
  pub grouped : new ≡ with_group old first (group_blocks group)
  -- each block is named once more
  pub shared : after ≡ pool_after_sharing before (group_blocks group)
