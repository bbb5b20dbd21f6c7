-- A file of modules, while they are entered as one group.
use Rattle.std.specs.Prelude.{◌≡◌, ℕ, ◌*◌, ◌≤◌, false, Option, Some, Result, Ok, Err, List, length}
use Rattle.guest_memory.specs.Tie.{RepresentsMemory}
use Rattle.guest_memory.specs.declared.memory.Memory.{Memory}
use Rattle.proc_model.specs.Loading.{EntersModules}
use Rattle.proc_model.specs.Memory.{MemoryState}
use Rattle.proc_model.specs.MemoryChanges.{new_numbers}
use Rattle.proc_model.specs.ModuleList.{ModuleEntry, module_entry_at, new_entry}
use Rattle.proc_model.specs.Objects.{file_blocks}
use Rattle.proc_model.specs.declared.module.ModId.{ModId}
use Rattle.proc_model.specs.declared.module.ModuleInfo.{ModuleInfo}
use Rattle.file_rules.specs.Load.{Loaded, Loads}

-- the module of this number is one of a group that is not the boot file's
pub record IsOfGroup (group : List ℕ) (number : ℕ) (m : MemoryState) : Type 0 where
  pub entry : ModuleEntry
  pub is : module_entry_at m.modules number ≡ Some entry
  pub group_is : entry.group ≡ group
  pub no_boot : entry.is_boot ≡ false

-- the modules of a file from a place on can be entered in the group of this module, which has room for the file
pub record CanEnter (file : List ℕ) (number from : ℕ) (memory : Memory) : Type 0 where
  pub m : MemoryState
  pub represents : RepresentsMemory memory m
  pub group : List ℕ
  pub of_group : IsOfGroup group number m
  pub room : length file ≤ 8192 * length group
  pub after : List (Option ModuleEntry)
  pub enters : EntersModules file group false from m.modules (Ok after)

-- ---- before it is entered

-- the result of a trial, by the outcome of loading the file: the header of its first module, or the number with which
-- it is refused
abbrev pub AnswersTrial : MemoryState → List ℕ → Result Loaded ℕ → Result ModuleInfo ℕ → Type 0
AnswersTrial m file (Ok loaded) (Ok info) =
    loaded.first.entry ≡ new_entry info (new_numbers m (file_blocks file)) false
AnswersTrial m file (Ok loaded) (Err answer) = ⊥
AnswersTrial m file (Err number) (Ok info) = ⊥
AnswersTrial m file (Err number) (Err answer) = answer ≡ number

-- a file was tried, and would be loaded or is refused
pub record TriesFile (file : List ℕ) (m : MemoryState) (result : Result ModuleInfo ℕ) : Type 0 where
  pub outcome : Result Loaded ℕ
  pub loads : Loads m file outcome
  pub answers : AnswersTrial m file outcome result

-- ---- the outcome

-- memory has the file, and the result is the number of its first module; or memory is unchanged, and the result is the
-- refusal
abbrev pub ComesLoaded : MemoryState → Result Loaded ℕ → Result ModId ℕ → Memory → Type 0
ComesLoaded m (Err number) result new = (result ≡ Err number) × RepresentsMemory new m
ComesLoaded m (Ok loaded) result new =
    (result ≡ Ok (record { 0 = loaded.first.number })) × RepresentsMemory new loaded.memory

-- a file is loaded, or is refused
pub record EntersFile (file : List ℕ) (m : MemoryState) (result : Result ModId ℕ) (new : Memory) : Type 0 where
  pub outcome : Result Loaded ℕ
  pub loads : Loads m file outcome
  pub comes : ComesLoaded m outcome result new
