-- How blocks, maps and the module directory represent the memory of the machine.
use Rattle.std.specs.Prelude.{◌≡◌, ℕ, Option, List, length, map}
use Rattle.block_pool.specs.Blocks.{Blocks}
use Rattle.proc_model.specs.declared.group.BlockId.{BlockId}
use Rattle.proc_model.specs.Memory.{MemoryState}
use Rattle.proc_model.specs.ModuleList.{ModuleEntry}
use Rattle.proc_model.specs.Slots.{Slots}
use Rattle.guest_memory.specs.Renaming.{RepresentObjects, renamed_map, renamed_modules}

-- the memory with these objects; blocks represent objects by these numbers
abbrev pub memory_of : (ℕ → ℕ) → Blocks → List (Slots BlockId) → List (Option ModuleEntry) → List (List ℕ) → MemoryState
memory_of number pool maps entries objects = record {
  blocks = length pool.counts;
  objects = objects;
  maps = map (renamed_map number) maps;
  modules = renamed_modules number entries;
}

-- Blocks, maps and entries represent a memory: the live blocks represent objects, and all else is equal except for
-- their numbers.
pub record RepresentMemory (pool : Blocks) (maps : List (Slots BlockId)) (entries : List (Option ModuleEntry))
    (m : MemoryState) : Type 0 where
  pub number : ℕ → ℕ
  pub objects : List (List ℕ)
  pub represent : RepresentObjects number pool objects
  pub is : m ≡ memory_of number pool maps entries objects
