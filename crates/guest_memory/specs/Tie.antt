-- How the kernel's memory represents that of the machine.
use Rattle.std.specs.Prelude.{◌≡◌, ℕ, Option, Some, None, option_and_then, Result, Ok, Err, IsOk, List, length, slice_index_or}
use Rattle.std.specs.Option.{option_map_or}
use Rattle.os9_base.specs.Cells.{Cells}
use Rattle.block_map.specs.Window.{map_cells}
use Rattle.proc_model.specs.declared.memory.MemoryFault.{MemoryFault}
use Rattle.proc_model.specs.Memory.{MemoryState, map_at}
use Rattle.proc_model.specs.ModuleList.{ModuleEntry, module_entry_at}
use Rattle.proc_model.specs.Objects.{object_cells}
use Rattle.proc_model.specs.Slots.{no_slots, group_slot}
use Rattle.guest_memory.specs.Memory.{RepresentMemory}
use Rattle.guest_memory.specs.Renaming.{numbered_map}
use Rattle.guest_memory.specs.declared.memory.Memory.{Memory}

-- a memory of blocks represents one of objects
abbrev pub RepresentsMemory : Memory → MemoryState → Type 0
RepresentsMemory memory m = RepresentMemory memory.pool memory.maps.items memory.dir m

-- A call on memory returns the result of the change of memory: it is done, and memory then represents that of the
-- machine; or it is refused, for the same reason, and memory represents what it did before.
abbrev pub ReturnsMemoryResult : {T : Type 0} → Result MemoryState MemoryFault → MemoryState → Result T MemoryFault
    → Memory
    → Type 0
ReturnsMemoryResult (Ok after) before result new = IsOk result × RepresentsMemory new after
ReturnsMemoryResult (Err fault) before result new = (result ≡ Err fault) × RepresentsMemory new before

-- ---- what callers may know of a memory

-- the module directory
abbrev pub modules_of : Memory → List (Option ModuleEntry)
modules_of memory = memory.dir

-- the number of blocks in the group of an entered module
abbrev pub group_len : Memory → ℕ → ℕ
group_len memory number = option_map_or (λ entry. length entry.group) (module_entry_at memory.dir number) 0

-- the slot at which the group of an entered module begins in the map of a process, if it is mapped there
abbrev pub slot_of_group : Memory → ℕ → ℕ → Option ℕ
slot_of_group memory process number =
    option_and_then (λ entry. group_slot (numbered_map (slice_index_or memory.maps.items process no_slots))
    entry.group) (module_entry_at memory.dir number)

-- a group is mapped, and begins at this slot; or there is no run of free slots for it, and nothing has changed
abbrev pub MapsGroup : Option (ℕ × MemoryState) → MemoryState → Option ℕ → Memory → Type 0
MapsGroup (Some found) before result new = (result ≡ Some found.0) × RepresentsMemory new found.1
MapsGroup None before result new = (result ≡ None) × RepresentsMemory new before

-- the byte that a process sees at each address, or nothing if the address is not named
abbrev pub cells_of : Memory → ℕ → ℕ → Option ℕ
cells_of memory process = map_cells (slice_index_or memory.maps.items process no_slots) memory.pool

-- the byte that a process of the machine sees at each address
abbrev pub seen_cells : MemoryState → ℕ → Cells
seen_cells m process = object_cells m.objects (map_at m process).places

-- memory is the same in everything that callers may know of it
pub record IsMemorySame (before after : Memory) : Type 0 where
  pub modules : modules_of after ≡ modules_of before
  pub cells : (process : ℕ) → cells_of after process ≡ cells_of before process
  pub represents : (m : MemoryState) → RepresentsMemory before m → RepresentsMemory after m
