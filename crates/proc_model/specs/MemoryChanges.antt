-- The changes of memory that make up the system calls (Level Two manual, "Memory management"; F$Link, F$Load, F$UnLink,
-- F$UnLoad, F$Fork, F$Chain, F$Mem). A refused change says why, and gives no other state.
use Rattle.std.specs.Prelude.{ℕ, ◌+◌, ◌-◌, nat_lt, nat_le, ◌||◌, Bool, false, Option, Some, option_map, Result, Ok, Err, List, [], ◌∷◌, ◌++◌, length, replicate, if◌then◌else◌}
use Rattle.std.specs.List.{range_with_len}
use Rattle.std.specs.Option.{option_map_or}
use Rattle.proc_model.specs.declared.memory.MemoryFault.{MemoryFault}
use Rattle.proc_model.specs.declared.memory.MemoryFault.TheVariants.{MemFull, NoRam}
use Rattle.proc_model.specs.declared.memory.TheConstants.{MOST_LINKS}
use Rattle.proc_model.specs.declared.module.ModuleInfo.{ModuleInfo}
use Rattle.proc_model.specs.Loading.{with_module}
use Rattle.proc_model.specs.Memory.{MemoryState, map_at, with_map, free_blocks, wants_blocks}
use Rattle.proc_model.specs.ModuleList.{ModuleEntry, module_entry_at, entry_linked, is_leaving, with_module_entry, without_link}
use Rattle.proc_model.specs.Objects.{zero_object, file_blocks, file_objects, with_writes}
use Rattle.proc_model.specs.Slots.{Slots, no_slots, is_free_run, highest_free_run, with_low, cut_low_to, with_group, map_without_group, group_slot}

-- ---- the data area of a process (F$Mem)

-- this many numbers for new objects
abbrev pub new_numbers : MemoryState → ℕ → List ℕ
new_numbers m count = range_with_len (length m.objects) count

-- the memory with this many new objects, whose bytes are zeros
abbrev pub with_new_objects : MemoryState → ℕ → MemoryState
with_new_objects m count = record m { objects = m.objects ++ replicate count zero_object }

-- The data area grows by this many new objects, in the slots that follow it. The change is refused with 207 if one of
-- these slots is named or there are fewer slots, else with 237 if fewer blocks are free.
abbrev pub grown : MemoryState → ℕ → ℕ → Result MemoryState MemoryFault
grown m process count =
    if is_free_run (map_at m process) (map_at m process).low count
    then (if wants_blocks m count then Err NoRam
    else Ok (with_map (with_new_objects m count) process (with_low (map_at m process) (new_numbers m count))))
    else Err MemFull

-- the map with at most this many slots of its data area
abbrev pub map_cut : {Block : Type 0} → Slots Block → ℕ → Slots Block
map_cut slots count = if nat_lt count slots.low then cut_low_to slots count else slots

-- at most this many slots of the data area are kept
abbrev pub cut : MemoryState → ℕ → ℕ → MemoryState
cut m process count = with_map m process (map_cut (map_at m process) count)

-- the map of the process names nothing any more
abbrev pub cleared : MemoryState → ℕ → MemoryState
cleared m process = with_map m process no_slots

-- ---- groups in maps (F$Link, F$UnLink)

-- A group is mapped into the highest free slots: the first of them, and the memory afterwards; nothing if there is no
-- free run of this length.
abbrev pub group_mapped : MemoryState → ℕ → List ℕ → Option (ℕ × MemoryState)
group_mapped m process group =
    option_map (λ first. (first, with_map m process (with_group (map_at m process) first group)))
    (highest_free_run (map_at m process) (length group))

-- the map without a group
abbrev pub map_ungrouped : Slots ℕ → List ℕ → Slots ℕ
map_ungrouped slots group =
    option_map_or (λ first. map_without_group slots first (length group)) (group_slot slots group) slots

-- a group is removed from the map of a process
abbrev pub group_unmapped : MemoryState → ℕ → List ℕ → MemoryState
group_unmapped m process group = with_map m process (map_ungrouped (map_at m process) group)

-- ---- links and entries (F$Link, F$UnLink, F$UnLoad, F$Load)

-- one more link of an entered module
abbrev pub linked : MemoryState → ℕ → MemoryState
linked m number =
    record m {
      modules =
          option_map_or (λ entry. with_module_entry m.modules number (entry_linked entry))
          (module_entry_at m.modules number) m.modules;
    }

-- One link less of an entered module. The entries of its group are removed with the last link of them all, but not
-- those of the boot file.
abbrev pub unlinked : MemoryState → ℕ → MemoryState
unlinked m number = record m { modules = without_link m.modules (Some number) }

-- the group of an entered module leaves memory with this link
abbrev pub is_group_leaving : MemoryState → ℕ → Bool
is_group_leaving m number = option_map_or (is_leaving m.modules number) (module_entry_at m.modules number) false

-- The file of a module is loaded into new objects as a group, and the module is entered. The change is refused with 237
-- if fewer blocks are free than the file needs.
abbrev pub entered : MemoryState → List ℕ → ModuleInfo → Bool → Result MemoryState MemoryFault
entered m file info is_boot =
    if wants_blocks m (file_blocks file)
    then Err NoRam
    else Ok (record m {
      objects = m.objects
          ++ file_objects file;
      modules = with_module m.modules info (new_numbers m (file_blocks file)) is_boot;
    })

-- one more module of the group of an entered module is entered
abbrev pub entered_beside : MemoryState → ℕ → ModuleInfo → MemoryState
entered_beside m number info =
    record m {
      modules =
          option_map_or (λ entry. with_module m.modules info entry.group entry.is_boot)
          (module_entry_at m.modules number) m.modules;
    }

-- ---- a process that begins (F$Fork, F$Chain)

-- the map of a process that begins: a data area from slot 0 up, and the group of its program in the highest slots
abbrev pub first_slots : List ℕ → List ℕ → Slots ℕ
first_slots area group = with_group (with_low no_slots area) (8 - length group) group

-- the memory in which the map of a process has a new data area of this many objects, and the group
abbrev pub with_first_slots : MemoryState → ℕ → List ℕ → ℕ → MemoryState
with_first_slots m process group count =
    with_map (with_new_objects m count) process (first_slots (new_numbers m count) group)

-- a module has all the links that it can have
abbrev pub has_most_links : ModuleEntry → Bool
has_most_links entry = nat_le MOST_LINKS entry.links

-- the memory of a process that begins with a module of this entry
abbrev pub started_with : MemoryState → ℕ → ℕ → ModuleEntry → Result MemoryState MemoryFault
started_with m process count entry =
    if has_most_links entry || nat_lt 8 (count + length entry.group)
    then Err MemFull
    else (if nat_lt (free_blocks m + (map_at m process).low) count
    then Err NoRam
    else Ok (with_first_slots m process entry.group count))

-- The memory of a process begins anew with an entered module and a data area of this many blocks. The change is refused
-- with 207 if the module has all the links that it can have or the slots are too few, else with 237 if fewer blocks are
-- free, counting the blocks of its old data area as free.
abbrev pub started : MemoryState → ℕ → ℕ → ℕ → Result MemoryState MemoryFault
started m process number count =
    option_map_or (started_with m process count) (module_entry_at m.modules number) (Err MemFull)

-- ---- bytes

-- the writes that put these bytes at consecutive addresses, from this one on
abbrev pub writes_from : ℕ → List ℕ → List (ℕ × ℕ)
writes_from address [] = []
writes_from address (byte ∷ bytes) = (address, byte) ∷ writes_from (address + 1) bytes

-- a process writes through its map: pairs of an address and a byte, in order
abbrev pub written : MemoryState → ℕ → List (ℕ × ℕ) → MemoryState
written m process writes = record m { objects = with_writes m.objects (map_at m process).places writes }

-- bytes are stored in the memory of a process, from an address on
abbrev pub stored : MemoryState → ℕ → ℕ → List ℕ → MemoryState
stored m process address bytes = written m process (writes_from address bytes)
