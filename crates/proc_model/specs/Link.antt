-- F$Link: links a module (System Programmer's Manual, F$Link).
-- Takes the type and language in A and the address of the name in X. Returns the module's type and language in A, its
-- attributes and revision in B, the address after the name in X, its entry in Y and its header's address in U.
-- Errors: E$BPAddr, E$BNam, E$MNF, E$MemFul (no slots are left in the map, or no links).
use Rattle.std.specs.Prelude.{ℕ, ◌+◌, ◌%◌, nat_le, Option, Some, None, List, length, slice_index_or, slice_set}
use Rattle.std.specs.Option.{option_map_or}
use Rattle.os9_base.specs.declared.errors.TheConstants.{E_BNAM, E_MNF, E_MEMFUL}
use Rattle.os9_base.specs.declared.registers.Regs.{Regs}
use Rattle.proc_model.specs.declared.memory.TheConstants.{MOST_LINKS}
use Rattle.proc_model.specs.Memory.{MemoryState, map_at}
use Rattle.proc_model.specs.MemoryChanges.{group_mapped, has_most_links, linked}
use Rattle.proc_model.specs.ModuleList.{ModuleEntry}
use Rattle.proc_model.specs.Slots.{group_slot}
use Rattle.proc_model.specs.declared.own.Own.{Own}
use Rattle.os9_base.specs.UserNames.{name_at}
use Rattle.proc_model.specs.Processes.{Processes, own_at, regs_at, cells_at, with_memory, with_regs_of, with_own}
use Rattle.proc_model.specs.ModuleLinks.{Entered, found_entry, header_address}
use Rattle.proc_model.specs.CallResult.{CallResult, done, needs, refuses, reads_name}

-- a group in the map of a process: the slot at which it begins, and the memory afterwards
pub record Mapped : Type 0 where
  pub slot : ℕ
  pub memory : MemoryState

-- a group at its slots if it is in the map already, else in the highest free slots; nothing if there are too few
abbrev pub mapped_group : MemoryState → ℕ → List ℕ → Option Mapped
mapped_group m p group =
    option_map_or (λ slot. Some (record { slot = slot; memory = m }))
    (group_slot (map_at m p) group)
    (option_map_or (λ mapped. Some (record { slot = mapped.0; memory = mapped.1 })) (group_mapped m p group) None)

-- the number of links of a process to the group at a slot
abbrev pub links_at : Own → ℕ → ℕ
links_at own slot = slice_index_or own.links slot 0

abbrev pub with_links_at : Own → ℕ → ℕ → Own
with_links_at own slot links = record own { links = slice_set own.links slot links }

-- the registers after a link, for a name of this length; past FFFF X is 0
abbrev pub linked_regs : Regs → ModuleEntry → ℕ → ℕ → Regs
linked_regs regs entry address count =
    record regs {
      a = entry.info.kind;
      b = entry.info.attr;
      x = (regs.x + count) % 65536;
      y = address + entry.info.entry;
      u = address;
    }

-- the state after a link
abbrev pub after_link : Processes → ℕ → Entered → Mapped → ℕ → Processes
after_link s p found mapped count =
    with_regs_of (with_own (with_memory s (linked mapped.memory found.number)) p
    (with_links_at (own_at s p) mapped.slot (links_at (own_at s p) mapped.slot + 1))) p
    (linked_regs (regs_at s p) found.entry (header_address mapped.slot found.entry) count)

abbrev pub f_link : Processes → ℕ → CallResult
f_link s p =
    reads_name (name_at (cells_at s p) (regs_at s p).x) E_BNAM
    (λ name. needs (found_entry s.memory.modules name (regs_at s p).a) E_MNF
    (λ found. refuses (has_most_links found.entry) E_MEMFUL
    (needs (mapped_group s.memory p found.entry.group) E_MEMFUL
    (λ mapped. refuses (nat_le MOST_LINKS (links_at (own_at s p) mapped.slot)) E_MEMFUL
    (done (after_link s p found mapped (length name)))))))
