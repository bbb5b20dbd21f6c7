-- Which links of modules an event of a process changes (System Programmer's Manual, F$Link, F$UnLink, F$Load,
-- F$UnLoad, F$Fork, F$Chain and F$Exit).
use Rattle.std.specs.Prelude.{◌≡◌, ◌⊎◌, ℕ, Some, Ok, List}
use Rattle.os9_base.specs.declared.calls.TheConstants.{F_LOAD}
use Rattle.proc_model.specs.Memory.{MemoryState, map_at}
use Rattle.proc_model.specs.MemoryChanges.{linked, unlinked}
use Rattle.proc_model.specs.ModuleList.{without_link}
use Rattle.os9_base.specs.UserNames.{name_at}
use Rattle.proc_model.specs.Processes.{Processes, cells_at, regs_at}
use Rattle.proc_model.specs.ModuleLinks.{Entered, found_entry, module_at}
use Rattle.proc_model.specs.Ready.{attempts, act_of}
use Rattle.proc_model.specs.declared.proc_call.ProcCall.TheVariants as Call
use Rattle.file_rules.specs.Load.{Loaded}
use Rattle.file_rules.specs.Program.{named_program}
use Rattle.file_rules.specs.ProgramFile.{ProgramFile}
use Rattle.call_laws.specs.Links.{LosesPrimary, primary_of}
use Rattle.call_laws.specs.Others.{AttemptsCall}
use Rattle.machine_model.specs.declared.ends.EventEnd.{EventEnd}
use Rattle.isolation_laws.specs.Loading.{LoadsFile}
use Rattle.machine_model.specs.State.{State}

-- ---- modules that are entered

-- a process names this module: the name is at X, and its type and language are in A
pub record NamesModule (m : Processes) (p : ℕ) (found : Entered) : Type 0 where
  pub name : List ℕ
  pub read : name_at (cells_at m p) (regs_at m p).x ≡ Ok name
  pub is : found_entry m.memory.modules name (regs_at m p).a ≡ Some found

-- F$Link or F$Fork: the module that the call names has one more link
pub record NamedModuleGainsLink (m : Processes) (p : ℕ) (n : MemoryState) : Type 0 where
  pub found : Entered
  pub call : AttemptsCall m p Call.Link × NamesModule m p found
      ⊎ AttemptsCall m p Call.Fork × (named_program m p ≡ Some found)
  pub more : n.modules ≡ (linked m.memory found.number).modules

-- the process has this module in its map, and the address of its header is in U
abbrev pub HasModuleAtU : Processes → ℕ → Entered → Type 0
HasModuleAtU m p found = module_at m.memory.modules (map_at m.memory p) (regs_at m p).u ≡ Some found

-- F$UnLink or F$UnLoad: the module that the call names has one link less; its group leaves if it has no link then
pub record NamedModuleLosesLink (m : Processes) (p : ℕ) (n : MemoryState) : Type 0 where
  pub found : Entered
  pub call : AttemptsCall m p Call.UnLink × HasModuleAtU m p found
      ⊎ AttemptsCall m p Call.UnLoad × NamesModule m p found
  pub less : n.modules ≡ (unlinked m.memory found.number).modules

-- F$Chain: the module that the call names has one more link, and then the old primary module has one less
pub record NamedModuleIsChained (m : Processes) (p : ℕ) (n : MemoryState) : Type 0 where
  pub call : AttemptsCall m p Call.Chain
  pub found : Entered
  pub named : named_program m p ≡ Some found
  pub relinked : n.modules ≡ without_link (linked m.memory found.number).modules (primary_of m p)

-- the links of entered modules are as before, or one of these changes them
abbrev pub ChangesEntered : Processes → ℕ → EventEnd → MemoryState → Type 0
ChangesEntered m p end n =
    (n.modules ≡ m.memory.modules) ⊎ NamedModuleGainsLink m p n ⊎ NamedModuleLosesLink m p n
    ⊎ NamedModuleIsChained m p n
    ⊎ LosesPrimary m p end n

-- ---- a loaded file

-- F$Load or F$Fork of a file: its first module has a link then
pub record LinksLoaded (s : State) (p : ℕ) (n : MemoryState) : Type 0 where
  pub call : (act_of s.processes p ≡ attempts F_LOAD) ⊎ AttemptsCall s.processes p Call.Fork
  pub file : ProgramFile
  pub loaded : Loaded
  pub loads : LoadsFile s p file loaded
  pub linked_then : n.modules ≡ (linked loaded.memory loaded.first.number).modules

-- F$Chain of a file: its first module has a link then, and the old primary module has one less
pub record ChainsLoaded (s : State) (p : ℕ) (n : MemoryState) : Type 0 where
  pub file : ProgramFile
  pub loaded : Loaded
  pub loads : LoadsFile s p file loaded
  pub call : AttemptsCall s.processes p Call.Chain
  pub relinked : n.modules
      ≡ without_link (linked loaded.memory loaded.first.number).modules (primary_of s.processes p)

-- the links of entered modules change as without files, or a file is loaded
abbrev pub ChangesLinksOrLoads : State → ℕ → EventEnd → MemoryState → Type 0
ChangesLinksOrLoads s p end n = ChangesEntered s.processes p end n ⊎ LinksLoaded s p n ⊎ ChainsLoaded s p n
