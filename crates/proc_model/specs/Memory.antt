-- Memory: objects of 8,192 bytes, the maps that name them, and the module directory (Level Two manual, "Memory
-- management"). All objects that ever appeared are kept, by number; the machine has blocks for the living ones.
use Rattle.std.specs.Prelude.{ℕ, ◌-◌, ◌==◌, nat_lt, Bool, Option, None, List, [], ◌++◌, flat_map, length, replicate, count_by, slice_index_or, slice_set}
use Rattle.std.specs.List.{list_any, range_with_len}
use Rattle.std.specs.Option.{option_map_or}
use Rattle.os9_base.specs.declared.errors.TheConstants.{E_MEMFUL, E_NORAM}
use Rattle.proc_model.specs.declared.memory.MemoryFault.{MemoryFault}
use Rattle.proc_model.specs.declared.memory.MemoryFault.TheVariants.{MemFull, NoRam}
use Rattle.proc_model.specs.ModuleList.{ModuleEntry, module_entry_at, entered_groups}
use Rattle.proc_model.specs.Slots.{Slots, no_slots, blocks_in}

-- the memory of the machine
pub record MemoryState : Type 0 where
  pub blocks : ℕ  -- the number of blocks of 8,192 bytes of the machine
  pub objects : List (List ℕ)  -- by number: all objects that ever appeared
  pub maps : List (Slots ℕ)  -- by process number: the map of each process
  pub modules : List (Option ModuleEntry)  -- by number: the module directory, with groups of objects' numbers

-- the memory with other entries of modules
abbrev pub with_modules : MemoryState → List (Option ModuleEntry) → MemoryState
with_modules m entries = record m { modules = entries }

-- the error of a refused change of memory
abbrev pub memory_error : MemoryFault → ℕ
memory_error MemFull = E_MEMFUL
memory_error NoRam = E_NORAM

-- the map of a process
abbrev pub map_at : MemoryState → ℕ → Slots ℕ
map_at m process = slice_index_or m.maps process no_slots

-- the memory with this map of a process
abbrev pub with_map : MemoryState → ℕ → Slots ℕ → MemoryState
with_map m process slots = record m { maps = slice_set m.maps process slots }

-- the group of an entered module
abbrev pub group_at : MemoryState → ℕ → List ℕ
group_at m number = option_map_or (λ entry. entry.group) (module_entry_at m.modules number) []

-- ---- the living objects

-- the objects in the places of a map
abbrev pub mapped_objects : Slots ℕ → List ℕ
mapped_objects slots = blocks_in slots.places

-- the objects that the maps name, and those of the entered groups
abbrev pub named_objects : MemoryState → List ℕ
named_objects m = flat_map mapped_objects m.maps ++ flat_map (λ group. group) (entered_groups m.modules)

-- an object lives while a map or an entered group names it
abbrev pub is_living_object : MemoryState → ℕ → Bool
is_living_object m number = list_any (λ named. named == number) (named_objects m)

-- the number of living objects
abbrev pub living_object_count : MemoryState → ℕ
living_object_count m = count_by (is_living_object m) (range_with_len 0 (length m.objects))

-- the number of free blocks: those of the machine less the living objects
abbrev pub free_blocks : MemoryState → ℕ
free_blocks m = m.blocks - living_object_count m

-- fewer blocks are free than this number
abbrev pub wants_blocks : MemoryState → ℕ → Bool
wants_blocks m wanted = nat_lt (free_blocks m) wanted

-- the memory of a machine with this number of blocks, in which nothing has appeared: no process names anything, and no
-- module is entered
abbrev pub first_memory : ℕ → MemoryState
first_memory blocks =
    record { blocks = blocks; objects = []; maps = replicate 33 no_slots; modules = replicate 64 None }
