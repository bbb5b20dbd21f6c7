-- Modules by their names and addresses, and links to them (Level Two manual, "Module directory").
use Rattle.std.specs.Prelude.{ℕ, ◌+◌, ◌*◌, ◌==◌, Bool, false, is_some, Option, Some, None, option_map, option_and_then, List, map, position, if◌then◌else◌}
use Rattle.std.specs.Option.{option_map_or}
use Rattle.proc_model.specs.MemoryChanges.{unlinked}
use Rattle.proc_model.specs.ModuleList.{ModuleEntry, module_entry_at, passes, found_module}
use Rattle.proc_model.specs.Slots.{Slots, group_slot}
use Rattle.proc_model.specs.declared.own.Own.{Own}
use Rattle.proc_model.specs.Processes.{Processes}

-- an entered module, with its number
pub record Entered : Type 0 where
  pub number : ℕ
  pub entry : ModuleEntry

-- the entered module of a number
abbrev pub entered_at : List (Option ModuleEntry) → ℕ → Option Entered
entered_at entries number =
    option_map (λ entry. record { number = number; entry = entry }) (module_entry_at entries number)

-- the module that is found by a name and a type and language
abbrev pub found_entry : List (Option ModuleEntry) → List ℕ → ℕ → Option Entered
found_entry entries name kind = option_and_then (entered_at entries) (found_module entries name kind)

-- the address of an entered module with a group that begins at this slot
abbrev pub header_address : ℕ → ModuleEntry → ℕ
header_address slot entry = 8192 * slot + entry.info.at

-- a map has the module at this address
abbrev pub is_at : Slots ℕ → ℕ → ModuleEntry → Bool
is_at slots address entry =
    option_map_or (λ slot. header_address slot entry == address) (group_slot slots entry.group) false

-- the entered module that a map has at this address
abbrev pub module_at : List (Option ModuleEntry) → Slots ℕ → ℕ → Option Entered
module_at entries slots address = option_and_then (entered_at entries) (position (passes (is_at slots address)) entries)

-- a primary module that is still entered
abbrev pub still_primary : List (Option ModuleEntry) → Own → Own
still_primary entries own =
    record own {
      primary =
          option_and_then (λ id. if is_some (module_entry_at entries id.0) then Some id else None) own.primary;
    }

-- a link of an entered module is given up; if its group leaves memory with it, no process has a primary module of the
-- group any more
abbrev pub without_module_link : Processes → ℕ → Processes
without_module_link s number =
    record s {
      memory =
          unlinked s.memory number;
      own = map (still_primary (unlinked s.memory number).modules) s.own;
    }

-- a process gives up the link to its primary module, if it has one
abbrev pub without_primary_link : Processes → Own → Processes
without_primary_link s own = option_map_or (λ id. without_module_link s id.0) own.primary s
