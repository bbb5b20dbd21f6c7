-- The changes of the module directory in an event of a process (Level Two manual, "Module directory"; System
-- Programmer's Manual, F$Load).
use Rattle.std.specs.Prelude.{◌≡◌, ◌⊎◌, ℕ, ◌≤◌, Option, Some, None, length, slice_get}
use Rattle.proc_model.specs.Memory.{MemoryState}
use Rattle.proc_model.specs.MemoryChanges.{new_numbers}
use Rattle.proc_model.specs.ModuleList.{ModuleEntry, module_entry_at}
use Rattle.proc_model.specs.Objects.{file_blocks}
use Rattle.proc_model.specs.declared.proc_call.ProcCall.TheVariants as Call
use Rattle.file_rules.specs.Load.{Loaded}
use Rattle.file_rules.specs.ProgramFile.{ProgramFile}
use Rattle.call_laws.specs.Modules.{LeavesWithLastLink, StaysEntered}
use Rattle.call_laws.specs.Others.{AttemptsCall}
use Rattle.isolation_laws.specs.Loading.{LoadsFile}
use Rattle.machine_model.specs.State.{State}

-- a module of this number is newly entered: it is of the file that a process loads, and has one link at most
pub record IsModuleEntered (s : State) (p number : ℕ) (new : ModuleEntry) : Type 0 where
  pub file : ProgramFile
  pub loaded : Loaded
  pub loads : LoadsFile s p file loaded
  pub entry : ModuleEntry
  pub is : module_entry_at loaded.memory.modules number ≡ Some entry
  pub same : new ≡ record entry { links = new.links }
  pub links : new.links ≤ 1

-- F$Chain of a file: an entered module with the group of the file leaves. There is none if groups are of objects that
-- have appeared
pub record LeavesWithFile (s : State) (p : ℕ) (old : ModuleEntry) : Type 0 where
  pub file : ProgramFile
  pub loaded : Loaded
  pub loads : LoadsFile s p file loaded
  pub call : AttemptsCall s.processes p Call.Chain
  pub of_group : old.group ≡ new_numbers s.processes.memory (file_blocks file.bytes)
  -- an object of it has not appeared before
  pub object : ℕ
  pub stands : (k : ℕ) × (slice_get old.group k ≡ Some object)
  pub absent : length s.processes.memory.objects ≤ object
  pub last_link : old.links ≤ 1

-- the change of an entry of the module directory: an entered module stays or leaves, or a new one appears
abbrev pub ModuleEntryChange : State → ℕ → ℕ → Option ModuleEntry → Option ModuleEntry → Type 0
ModuleEntryChange s p number (Some old) (Some new) = StaysEntered old new
ModuleEntryChange s p number (Some old) None = LeavesWithLastLink s.processes.memory.modules old
    ⊎ LeavesWithFile s p old
ModuleEntryChange s p number None (Some new) = IsModuleEntered s p number new
ModuleEntryChange s p number None None = Unit {0}

-- the module directory changes only by the rules of links and loads
abbrev pub FollowsModuleRules : State → ℕ → MemoryState → Type 0
FollowsModuleRules s p n =
    (number : ℕ)
    → ModuleEntryChange s p number (module_entry_at s.processes.memory.modules number)
    (module_entry_at n.modules number)
