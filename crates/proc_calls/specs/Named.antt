-- The module that a call names by a name and a type and language.
use Rattle.std.specs.Prelude.{◌≡◌, ℕ, Option, Some, None, option_map, option_and_then, nat_le, Result, Ok, Err, List, length, if◌then◌else◌}
use Rattle.os9_base.specs.declared.errors.TheConstants.{E_BPADDR, E_BNAM, E_MNF}
use Rattle.proc_model.specs.declared.memory.TheConstants.{MOST_LINKS}
use Rattle.proc_model.specs.MemoryChanges.{has_most_links}
use Rattle.proc_model.specs.ModuleList.{ModuleEntry, module_entry_at}
use Rattle.os9_base.specs.declared.name_fault.NameFault.{NameFault}
use Rattle.os9_base.specs.declared.name_fault.NameFault.TheVariants.{Unreadable, NoName}
use Rattle.os9_base.specs.UserNames.{name_at}
use Rattle.proc_model.specs.CallResult.{CallResult, refused, needs, reads_name}
use Rattle.proc_model.specs.Processes.{Processes, own_at, regs_at, cells_at}
use Rattle.proc_model.specs.Link.{links_at, mapped_group}
use Rattle.proc_model.specs.ModuleLinks.{Entered, found_entry}

-- the name that a call reads, or the number of the error
abbrev pub name_or_error : Result (List ℕ) NameFault → Result (List ℕ) ℕ
name_or_error (Ok name) = Ok name
name_or_error (Err Unreadable) = Err E_BPADDR
name_or_error (Err NoName) = Err E_BNAM

-- the call goes on with the name at X and the entered module of this name and the type and language in A
abbrev pub names_module : Processes → ℕ → (List ℕ → Entered → CallResult) → CallResult
names_module m p next =
    reads_name (name_at (cells_at m p) (regs_at m p).x) E_BNAM
    (λ name. needs (found_entry m.memory.modules name (regs_at m p).a) E_MNF (λ found. next name found))

-- a call goes on with this module, whose name has this length
pub record IsModuleNamed (m : Processes) (p number count : ℕ) : Type 0 where
  pub name : List ℕ
  pub entry : ModuleEntry
  pub long : length name ≡ count
  pub is : module_entry_at m.memory.modules number ≡ Some entry
  pub goes : (next : List ℕ → Entered → CallResult)
      → names_module m p next ≡ next name (record { number = number; entry = entry })

-- a call that names a module is refused with this number
abbrev pub IsUnnamed : Processes → ℕ → ℕ → Type 0
IsUnnamed m p number = (next : List ℕ → Entered → CallResult) → names_module m p next ≡ refused number

-- the slot at which the group of a module is mapped in the map of a process, or would be mapped
abbrev pub slot_in : Processes → ℕ → List ℕ → Option ℕ
slot_in m p group = option_map (λ mapped. mapped.slot) (mapped_group m.memory p group)

-- a slot at which a process may have one more link
abbrev pub if_few_links : Processes → ℕ → ℕ → Option ℕ
if_few_links m p slot = if nat_le MOST_LINKS (links_at (own_at m p) slot) then None else Some slot

-- the slot of the group of a module that a process may link: the module and the process have fewer links than the most
abbrev pub link_slot : Processes → ℕ → ModuleEntry → Option ℕ
link_slot m p entry =
    if has_most_links entry then None else option_and_then (if_few_links m p) (slot_in m p entry.group)
