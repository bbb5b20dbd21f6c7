-- The state in which a boot file starts (Level Two manual, "Booting"; the first process is this project's own).
use Rattle.std.specs.Prelude.{◌≡◌, ◌⊎◌, ℕ, ◌<◌, ◌≤◌, true, Option, Some, None, Result, Ok, Err, IsErr, List, [], length, replicate, slice_set, codes}
use Rattle.std.specs.List.{range_with_len}
use Rattle.os9_base.specs.declared.limits.TheConstants.{MOST_GROUP_BYTES, PROCESS_PLACES}
use Rattle.os9_base.specs.declared.registers.Pid.{Pid}
use Rattle.proc_model.specs.declared.memory.MemoryFault.{MemoryFault}
use Rattle.proc_model.specs.Loading.{EntersModules, no_entries}
use Rattle.proc_model.specs.Memory.{MemoryState, first_memory}
use Rattle.proc_model.specs.MemoryChanges.{linked, started}
use Rattle.proc_model.specs.ModuleList.{ModuleEntry, module_entry_at, found_module}
use Rattle.proc_model.specs.Objects.{file_blocks, file_objects}
use Rattle.proc_model.specs.Records.{after_make, with_regs}
use Rattle.proc_model.specs.Turns.{with_turn}
use Rattle.proc_model.specs.Processes.{Processes, no_own}
use Rattle.proc_model.specs.Program.{Program, program_kind, area_pages, blocks_of_pages, start_regs, start_own}
use Rattle.machine_model.specs.declared.ends.BootFault.{BootFault}
use Rattle.machine_model.specs.declared.ends.BootFault.TheVariants.{OutOfMemory, BadModule, NoFirst, TooLarge}

-- ---- the boot file

-- the numbers of the objects that hold the boot file: they are the first to appear
abbrev pub boot_group : List ℕ → List ℕ
boot_group file = range_with_len 0 (file_blocks file)

-- the outcome of entering the modules of the boot file in a directory without entries: the entries, or the place and
-- the error of the first refused module
abbrev pub EntersBoot : List ℕ → Result (List (Option ModuleEntry)) (ℕ × ℕ) → Type 0
EntersBoot file outcome = EntersModules file (boot_group file) true 0 no_entries outcome

-- the memory of a machine with this number of blocks that has the boot file, if these are the entries of its modules
abbrev pub boot_memory : List ℕ → ℕ → List (Option ModuleEntry) → MemoryState
boot_memory file blocks entries = record (first_memory blocks) { objects = file_objects file; modules = entries }

-- the most bytes of a group of modules: seven blocks
abbrev pub longest_file : ℕ
longest_file = MOST_GROUP_BYTES

-- ---- the first process

-- the first program that is run: the name SysGo, case ignored, and the type and language of a program in 6809 code
abbrev pub first_program : List (Option ModuleEntry) → Option ℕ
first_program entries = found_module entries (codes "SysGo") program_kind

-- the modules of the file are entered, and one of them is the first program, which has this entry and this number
pub record HasFirstProgram (file : List ℕ) (entries : List (Option ModuleEntry)) (number : ℕ) (entry : ModuleEntry)
    : Type 0 where
  pub short : length file ≤ longest_file
  pub entered : EntersBoot file (Ok entries)
  pub found_it : first_program entries ≡ Some number
  pub is : module_entry_at entries number ≡ Some entry

-- the number of the first process; it has no parent, is the superuser's, and this is its priority
abbrev pub first_process : Pid
first_process = record { 0 = 2 }

abbrev pub no_parent : Pid
no_parent = record { 0 = 0 }

abbrev pub superuser : ℕ
superuser = 0

abbrev pub first_priority : ℕ
first_priority = 128

-- the program of the first process, which is given no parameters
abbrev pub first_start : ℕ → ModuleEntry → Program
first_start number entry = record {
  entered = record { number = number; entry = entry };
  pages = area_pages entry 0 0;
  parameters = [];
  count = 0;
}

-- the memory in which the first process begins, or why it does not
abbrev pub first_started : List ℕ → ℕ → List (Option ModuleEntry) → ℕ → ModuleEntry → Result MemoryState MemoryFault
first_started file blocks entries number entry =
    started (boot_memory file blocks entries) first_process.0 number (blocks_of_pages (area_pages entry 0 0))

-- the only process, which begins with this program in this memory: its module has one more link
abbrev pub only_process : MemoryState → Program → Processes
only_process memory program = record {
  memory = linked memory program.entered.number;
  records =
      with_regs (after_make (replicate PROCESS_PLACES None) no_parent superuser first_priority) first_process.0
      (start_regs program);
  own = slice_set (replicate PROCESS_PLACES no_own) first_process.0 (start_own program);
  order = with_turn [] first_process first_priority;
  tick = 0;
}

-- ---- the start

-- Why a boot file does not start a machine with this number of blocks: the first cause of those below.
abbrev pub RefusesBoot : List ℕ → ℕ → BootFault → Type 0
-- it has more bytes than a group; or there are too few blocks or slots for it and the first program's data area
RefusesBoot file blocks TooLarge =
    (longest_file < length file)
    ⊎ ((entries : List (Option ModuleEntry)) × (number : ℕ) × (entry : ModuleEntry)
    × HasFirstProgram file entries number entry × IsErr (first_started file blocks entries number entry))
-- one of its modules is refused: where it begins, and the error
RefusesBoot file blocks (BadModule at error) =
    (length file ≤ longest_file) × EntersBoot file (Err (at, error))
-- it has no first program
RefusesBoot file blocks NoFirst =
    (length file ≤ longest_file)
    × ((entries : List (Option ModuleEntry)) × EntersBoot file (Ok entries) × (first_program entries ≡ None))
RefusesBoot file blocks OutOfMemory = ⊥

-- the processes with which a machine with this number of blocks starts a boot file
pub record StartsProcesses (file : List ℕ) (blocks : ℕ) (processes : Processes) : Type 0 where
  pub entries : List (Option ModuleEntry)
  pub number : ℕ
  pub entry : ModuleEntry
  pub memory : MemoryState
  pub has : HasFirstProgram file entries number entry
  pub begins : first_started file blocks entries number entry ≡ Ok memory
  pub is : processes ≡ only_process memory (first_start number entry)
