-- What names the blocks of memory: the maps, and the entered groups.
use Rattle.std.specs.Prelude.{◌≡◌, ℕ, ◌<◌, ◌==◌, Option, List, ◌++◌, map, flat_map, count_by}
use Rattle.block_pool.specs.Blocks.{Blocks, reference_count}
use Rattle.proc_model.specs.declared.group.BlockId.{BlockId}
use Rattle.proc_model.specs.ModuleList.{ModuleEntry, entered_groups}
use Rattle.proc_model.specs.Slots.{Slots, blocks_in}

-- the blocks in the places of a map
abbrev pub mapped_blocks : Slots BlockId → List ℕ
mapped_blocks slots = map (λ (id : BlockId). id.0) (blocks_in slots.places)

-- all references to blocks, each as often as it occurs: the places of the maps, and the entered groups
abbrev pub references : List (Slots BlockId) → List (Option ModuleEntry) → List ℕ
references maps entries = flat_map mapped_blocks maps ++ flat_map (λ group. group) (entered_groups entries)

-- the number of times that a list names a block
abbrev pub times : ℕ → List ℕ → ℕ
times block names = count_by (λ named. named == block) names

-- a list names a block
abbrev pub Has : List ℕ → ℕ → Type 0
Has names block = 0 < times block names

-- the count of each block is the number of references to it
abbrev pub AreReferenceCounts : Blocks → List (Slots BlockId) → List (Option ModuleEntry) → Type 0
AreReferenceCounts pool maps entries = (block : ℕ) → reference_count pool block ≡ times block (references maps entries)
