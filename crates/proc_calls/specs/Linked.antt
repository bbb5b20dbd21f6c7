-- Linking an entered module (System Programmer's Manual, F$Link and F$Load).
use Rattle.std.specs.Prelude.{ℕ, nat_le}
use Rattle.os9_base.specs.declared.errors.TheConstants.{E_MEMFUL}
use Rattle.proc_model.specs.declared.memory.TheConstants.{MOST_LINKS}
use Rattle.proc_model.specs.declared.module.ModId.{ModId}
use Rattle.proc_model.specs.MemoryChanges.{has_most_links}
use Rattle.proc_model.specs.ModuleList.{ModuleEntry}
use Rattle.proc_model.specs.CallResult.{CallResult, done, needs, refuses}
use Rattle.proc_model.specs.Processes.{Processes, own_at}
use Rattle.proc_model.specs.Link.{mapped_group, links_at, after_link}
use Rattle.proc_model.specs.ModuleLinks.{Entered}

-- the entered module of a number, by its entry
abbrev pub entered_as : ModId → ModuleEntry → Entered
entered_as id entry = record { number = id.0; entry = entry }

-- a process links an entered module, and X grows by this number of characters
abbrev pub links_entered : Processes → ℕ → Entered → ℕ → CallResult
links_entered m p found count =
    refuses (has_most_links found.entry) E_MEMFUL
    (needs (mapped_group m.memory p found.entry.group) E_MEMFUL
    (λ mapped. refuses (nat_le MOST_LINKS (links_at (own_at m p) mapped.slot)) E_MEMFUL
    (done (after_link m p found mapped count))))
