-- What always holds of memory: what names which blocks, and where (Level Two manual, "Memory management").
use Rattle.std.specs.Prelude.{◌≡◌, ◌≢◌, ℕ, ◌+◌, ◌-◌, ◌*◌, ◌<◌, ◌≤◌, Option, Some, IsSome, List, length, All, slice_index}
use Rattle.block_pool.specs.Blocks.{Blocks, IsPool, reference_count}
use Rattle.proc_model.specs.declared.group.BlockId.{BlockId}
use Rattle.proc_model.specs.ModuleList.{ModuleEntry, module_entry_at}
use Rattle.proc_model.specs.Slots.{Slots, IsMap, block_at, HasGroupAt}
use Rattle.guest_memory.specs.References.{Has, AreReferenceCounts}
use Rattle.guest_memory.specs.Renaming.{numbered_map}

-- what holds of each map
pub record IsSoundMap (pool : Blocks) (entries : List (Option ModuleEntry)) (slots : Slots BlockId) : Type 0 where
  pub map : IsMap slots
  -- each slot of the data area names a block
  pub full : (slot : ℕ) → slot < slots.low → IsSome (block_at slots slot)
  -- nothing else names a block of the data area
  pub alone : (slot : ℕ) (id : BlockId) → slot < slots.low → block_at slots slot ≡ Some id
      → reference_count pool id.0 ≡ 1
  -- if a slot names a block of an entered group, the whole group is in the slots around it
  pub grouped : (number : ℕ) (entry : ModuleEntry) → module_entry_at entries number ≡ Some entry
      → (slot k : ℕ) (id : BlockId) → block_at slots slot ≡ Some id → k < length entry.group
      → id.0 ≡ slice_index entry.group k → (k ≤ slot) × HasGroupAt (numbered_map slots) entry.group (slot - k)

-- what holds of each entered module
pub record IsGrouped (entry : ModuleEntry) : Type 0 where
  -- its group has one to seven blocks
  pub some : 1 ≤ length entry.group
  pub few : length entry.group ≤ 7
  -- no block occurs in it twice
  pub once : (one other : ℕ) → one < length entry.group → other < length entry.group
      → slice_index entry.group one ≡ slice_index entry.group other → one ≡ other
  -- the module lies in it
  pub inside : entry.info.at + entry.info.size ≤ 8192 * length entry.group
  -- its entry lies in the module
  pub runs : entry.info.entry < entry.info.size

-- what holds of all entered modules
pub record AreGrouped (entries : List (Option ModuleEntry)) : Type 0 where
  pub each : (number : ℕ) (entry : ModuleEntry) → module_entry_at entries number ≡ Some entry → IsGrouped entry
  -- groups that share a block are the same
  pub same : (number other : ℕ) (entry another : ModuleEntry) → module_entry_at entries number ≡ Some entry
      → module_entry_at entries other ≡ Some another → (block : ℕ) → Has entry.group block → Has another.group block
      → entry.group ≡ another.group

-- what holds of the blocks, the maps of all processes and the module directory together
pub record IsSoundMemory (pool : Blocks) (maps : List (Slots BlockId)) (entries : List (Option ModuleEntry)) : Type 0
  where
    pub shape : IsPool pool
    -- there is a map for each process number, and a place for each module
    pub processes : length maps ≡ 33
    pub numbers : length entries ≡ 64
    -- the count of each block is the number of references from maps and entered groups
    pub counted : AreReferenceCounts pool maps entries
    pub held : All (IsSoundMap pool entries) maps
    pub groups : AreGrouped entries
