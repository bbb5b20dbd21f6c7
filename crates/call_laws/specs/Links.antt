-- Which links of modules an event of a process changes (System Programmer's Manual, F$Link, F$UnLink, F$UnLoad, F$Fork,
-- F$Chain and F$Exit).
use Rattle.std.specs.Prelude.{◌≡◌, ◌⊎◌, ℕ, Option, option_map}
use Rattle.proc_model.specs.Memory.{MemoryState}
use Rattle.proc_model.specs.MemoryChanges.{linked, unlinked}
use Rattle.proc_model.specs.ModuleList.{without_link}
use Rattle.proc_model.specs.declared.proc_call.ProcCall.TheVariants as Call
use Rattle.proc_model.specs.Processes.{Processes, own_at}
use Rattle.machine_model.specs.declared.ends.EventEnd.{EventEnd}
use Rattle.machine_model.specs.declared.ends.EventEnd.TheVariants.{Ended}
use Rattle.call_laws.specs.Others.{AttemptsCall}

-- the number of the primary module of a process
abbrev pub primary_of : Processes → ℕ → Option ℕ
primary_of m p = option_map (λ id. id.0) (own_at m p).primary

-- one module has one more link, by F$Link or F$Fork
pub record GainsLink (m : Processes) (p : ℕ) (n : MemoryState) : Type 0 where
  pub call : AttemptsCall m p Call.Link ⊎ AttemptsCall m p Call.Fork
  pub number : ℕ
  pub more : n.modules ≡ (linked m.memory number).modules

-- one module has one link less, by F$UnLink or F$UnLoad; its group leaves if it has no link then
pub record LosesLink (m : Processes) (p : ℕ) (n : MemoryState) : Type 0 where
  pub call : AttemptsCall m p Call.UnLink ⊎ AttemptsCall m p Call.UnLoad
  pub number : ℕ
  pub less : n.modules ≡ (unlinked m.memory number).modules

-- F$Chain: one module has one more link, and then the old primary module has one less
pub record ChangesPrimary (m : Processes) (p : ℕ) (n : MemoryState) : Type 0 where
  pub call : AttemptsCall m p Call.Chain
  pub number : ℕ
  pub relinked : n.modules ≡ without_link (linked m.memory number).modules (primary_of m p)

-- the process ends, and its primary module has one link less
pub record LosesPrimary (m : Processes) (p : ℕ) (end : EventEnd) (n : MemoryState) : Type 0 where
  pub ends : end ≡ Ended
  pub less : n.modules ≡ without_link m.memory.modules (primary_of m p)

-- the module directory is as before, or one of these changes it
abbrev pub ChangesLinks : Processes → ℕ → EventEnd → MemoryState → Type 0
ChangesLinks m p end n =
    (n.modules ≡ m.memory.modules) ⊎ GainsLink m p n ⊎ LosesLink m p n ⊎ ChangesPrimary m p n
    ⊎ LosesPrimary m p end n
