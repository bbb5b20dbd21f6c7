-- A boot file in memory, while its modules are entered.
use Rattle.std.specs.Prelude.{◌≡◌, ℕ, ◌≤◌, true, Option, Some, None, Ok, List}
use Rattle.guest_memory.specs.declared.memory.Memory.{Memory}
use Rattle.guest_memory.specs.Tie.{RepresentsMemory}
use Rattle.proc_model.specs.declared.module.ModuleInfo.{ModuleInfo}
use Rattle.proc_model.specs.Loading.{EntersModules, entry_refusal, no_entries, with_module}
use Rattle.proc_model.specs.Memory.{MemoryState, first_memory, with_modules}
use Rattle.proc_model.specs.ModuleList.{ModuleEntry, module_entry_at}
use Rattle.machine_model.specs.ProcessStart.{EntersBoot, boot_group, boot_memory}

-- nothing has appeared in a memory of 8 blocks or more
abbrev pub IsEmptyMemory : Memory → Type 0
IsEmptyMemory memory = (blocks : ℕ) × (8 ≤ blocks) × RepresentsMemory memory (first_memory blocks)

-- the module of this number is one of the boot file's
pub record HasGroup (file : List ℕ) (number : ℕ) (m : MemoryState) : Type 0 where
  pub entry : ModuleEntry
  pub is : module_entry_at m.modules number ≡ Some entry
  pub group : entry.group ≡ boot_group file
  pub boot : entry.is_boot ≡ true

abbrev pub IsBooting : List ℕ → ℕ → Memory → Type 0
IsBooting file number memory = (m : MemoryState) × RepresentsMemory memory m × HasGroup file number m

-- the memory with one more module of the boot file
abbrev pub with_boot_module : List ℕ → MemoryState → ModuleInfo → MemoryState
with_boot_module file m info = with_modules m (with_module m.modules info (boot_group file) true)

-- a machine with this number of blocks has the boot file, and this module of it, by this number
pub record BeginsBoot (file : List ℕ) (blocks : ℕ) (info : ModuleInfo) (number : ℕ) (memory : Memory) : Type 0 where
  pub accepted : entry_refusal no_entries info ≡ None
  pub represents : RepresentsMemory memory (with_boot_module file (boot_memory file blocks no_entries) info)
  pub has : HasGroup file number (with_boot_module file (boot_memory file blocks no_entries) info)

-- one more module of the boot file is entered, in the group of the module of this number
pub record EntersBeside (file : List ℕ) (number : ℕ) (m : MemoryState) (info : ModuleInfo) (memory : Memory) : Type 0
  where
    pub accepted : entry_refusal m.modules info ≡ None
    pub represents : RepresentsMemory memory (with_boot_module file m info)
    pub has : HasGroup file number (with_boot_module file m info)

-- the modules of the boot file from a place on are entered
pub record EntersRest (file : List ℕ) (from : ℕ) (m : MemoryState) (memory : Memory) : Type 0 where
  pub entries : List (Option ModuleEntry)
  pub entered : EntersModules file (boot_group file) true from m.modules (Ok entries)
  pub represents : RepresentsMemory memory (with_modules m entries)

-- a machine with this number of blocks has the boot file, and all its modules are entered
pub record HasBoot (file : List ℕ) (blocks : ℕ) (memory : Memory) : Type 0 where
  pub entries : List (Option ModuleEntry)
  pub entered : EntersBoot file (Ok entries)
  pub represents : RepresentsMemory memory (boot_memory file blocks entries)
