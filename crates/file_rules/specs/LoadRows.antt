-- Loads of files of modules, worked through by hand: two revisions of the module `S` that processes 2 and 3 have
-- linked.
use Rattle.std.specs.Prelude.{ℕ, false, Option, List, [], ◌∷◌}
use Rattle.proc_model.specs.Loading.{with_module}
use Rattle.proc_model.specs.Memory.{MemoryState}
use Rattle.proc_model.specs.Module.{info_at}
use Rattle.proc_model.specs.MemoryChanges.{new_numbers}
use Rattle.proc_model.specs.ModuleList.{ModuleEntry}
use Rattle.proc_model.specs.Records.{zero_regs}
use Rattle.proc_model.specs.Attempts.{after_attempt}
use Rattle.proc_model.specs.Processes.{Processes, with_regs_of}
use Rattle.proc_model.specs.ModuleLinks.{Entered}
use Rattle.proc_model.specs.Rows.{after_call, both_linked}
use Rattle.proc_model.specs.declared.proc_call.ProcCall.TheVariants as Call
use Rattle.file_rules.specs.Load.{Loaded, with_file_entered, links_first}

-- a data module with the name `S`, of revision 1 and of revision 2
abbrev pub first_revision : List ℕ
first_revision =
    0x87 ∷ 0xCD ∷ 0x00 ∷ 0x0D ∷ 0x00 ∷ 0x09 ∷ 0x40 ∷ 0x81 ∷ 0x70 ∷ 0xD3 ∷ 0xBA ∷ 0xB4 ∷ 0xA3 ∷ []

abbrev pub second_revision : List ℕ
second_revision =
    0x87 ∷ 0xCD ∷ 0x00 ∷ 0x0D ∷ 0x00 ∷ 0x09 ∷ 0x40 ∷ 0x82 ∷ 0x73 ∷ 0xD3 ∷ 0x7C ∷ 0x72 ∷ 0xA3 ∷ []

-- the memory in which both have linked S of revision 1, and its entries with the file of revision 2
abbrev pub linked_memory : MemoryState
linked_memory = both_linked.memory

abbrev pub newer_entries : List (Option ModuleEntry)
newer_entries =
    with_module linked_memory.modules (info_at 0 second_revision) (new_numbers linked_memory 1) false

-- the entry of that module, which has number 1
abbrev pub newer : Entered
newer = record {
  number = 1;
  entry = record {
    info = info_at 0 second_revision;
    group = new_numbers linked_memory 1;
    links = 0;
    is_boot = false;
  };
}

-- that file in memory
abbrev pub newer_loaded : Loaded
newer_loaded = record { first = newer; memory = with_file_entered linked_memory second_revision newer_entries }

-- the state after process 2 has loaded it, by a path list that ends at address 5
abbrev pub loaded_by_two : Processes
loaded_by_two =
    after_attempt both_linked 2
    (links_first both_linked 2 (record { bytes = second_revision; next = 5 }) newer_loaded)

-- that state after process 3 has linked the module found by the name, and that state after process 2 has given up its
-- link
abbrev pub found_by_three : Processes
found_by_three = after_call Call.Link 3 (with_first_regs loaded_by_two)
  where
    with_first_regs : Processes → Processes
    with_first_regs s = with_regs_of s 3 zero_regs

abbrev pub given_up : Processes
given_up = after_call Call.UnLink 2 loaded_by_two
