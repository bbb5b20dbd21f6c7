-- A boot file that a machine accepts (Level Two manual, "Booting").
use Rattle.std.specs.Prelude.{◌≡◌, ℕ, ◌≤◌, true, Option, Some, Ok, List, length, codes}
use Rattle.std.specs.List.{range_with_len}
use Rattle.os9_base.specs.declared.limits.TheConstants.{MOST_GROUP_BYTES}
use Rattle.proc_model.specs.Loading.{EntersModules, no_entries}
use Rattle.proc_model.specs.Memory.{MemoryState, first_memory}
use Rattle.proc_model.specs.MemoryChanges.{started}
use Rattle.proc_model.specs.ModuleList.{ModuleEntry, module_entry_at, found_module}
use Rattle.proc_model.specs.Objects.{file_blocks, file_objects}

-- all modules of the file are entered, and one of them is the program SysGo, the first that a machine runs; in a
-- machine with this number of blocks the first process, number 2, has room for it and for its data of one block
pub record IsBootableFile (file : List ℕ) (blocks : ℕ) : Type 0 where
  pub entries : List (Option ModuleEntry)
  pub number : ℕ
  pub entry : ModuleEntry
  pub memory : MemoryState
  pub short : length file ≤ MOST_GROUP_BYTES
  pub entered : EntersModules file (range_with_len 0 (file_blocks file)) true 0 no_entries (Ok entries)
  pub found : found_module entries (codes "SysGo") 0x11 ≡ Some number
  pub is : module_entry_at entries number ≡ Some entry
  pub storage : entry.info.storage ≤ 8192
  pub begins : started (record (first_memory blocks) { objects = file_objects file; modules = entries }) 2 number 1
      ≡ Ok memory
