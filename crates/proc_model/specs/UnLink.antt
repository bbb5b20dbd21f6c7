-- F$UnLink: gives up a link to a module (System Programmer's Manual, F$UnLink).
-- Takes the address of the module's header in U. The group leaves the map with the last link of the process to it.
-- Errors: E$MNF.
use Rattle.std.specs.Prelude.{ℕ, ◌-◌, ◌==◌, List, if◌then◌else◌}
use Rattle.std.specs.Option.{option_map_or}
use Rattle.os9_base.specs.declared.errors.TheConstants.{E_MNF}
use Rattle.proc_model.specs.Memory.{MemoryState, map_at}
use Rattle.proc_model.specs.MemoryChanges.{group_unmapped}
use Rattle.proc_model.specs.Slots.{group_slot}
use Rattle.proc_model.specs.Processes.{Processes, own_at, regs_at, with_memory, with_own}
use Rattle.proc_model.specs.Link.{links_at, with_links_at}
use Rattle.proc_model.specs.ModuleLinks.{Entered, module_at, without_module_link}
use Rattle.proc_model.specs.CallResult.{CallResult, done, needs}

-- the memory in which this number of links of a process to a group are left
abbrev pub with_links_left : MemoryState → ℕ → List ℕ → ℕ → MemoryState
with_links_left m p group left = if left == 0 then group_unmapped m p group else m

-- the state in which a process has one link less to a group, which begins at this slot of its map
abbrev pub without_group_link : Processes → ℕ → List ℕ → ℕ → Processes
without_group_link s p group slot =
    with_own (with_memory s (with_links_left s.memory p group (links_at (own_at s p) slot - 1))) p
    (with_links_at (own_at s p) slot (links_at (own_at s p) slot - 1))

-- the state in which a process has given up a link to a module in its map
abbrev pub after_unlink : Processes → ℕ → Entered → Processes
after_unlink s p found =
    without_module_link (option_map_or (without_group_link s p found.entry.group)
    (group_slot (map_at s.memory p) found.entry.group) s) found.number

abbrev pub f_unlink : Processes → ℕ → CallResult
f_unlink s p =
    needs (module_at s.memory.modules (map_at s.memory p) (regs_at s p).u) E_MNF
    (λ found. done (after_unlink s p found))
