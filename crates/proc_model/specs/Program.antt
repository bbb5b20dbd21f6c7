-- The program that F$Fork and F$Chain start (System Programmer's Manual, F$Fork and F$Chain).
-- A is its type and language, B the pages of its data area, X the address of its name, Y and U the size and the address
-- of its parameters.
-- Errors, in this order: E$BPAddr; E$NEMod (of A); E$BNam and E$MNF, since no file is loaded; E$NEMod (of the module).
use Rattle.std.specs.Prelude.{ℕ, ◌+◌, ◌-◌, ◌*◌, ◌/◌, ◌%◌, ◌==◌, ◌||◌, not, max, Bool, true, false, Option, Some, None, unwrap_or, List, length, slice_get, replicate, slice_set, if◌then◌else◌}
use Rattle.std.specs.Option.{option_map_or}
use Rattle.os9_base.specs.Cells.{Cells}
use Rattle.os9_base.specs.Name.{is_name_character, low_bits, parsed_name}
use Rattle.os9_base.specs.declared.errors.TheConstants.{E_BPADDR, E_NEMOD, E_BNAM, E_MNF}
use Rattle.os9_base.specs.declared.limits.TheConstants.{MOST_GROUP_BYTES}
use Rattle.os9_base.specs.declared.registers.Regs.{Regs}
use Rattle.proc_model.specs.ModuleList.{ModuleEntry}
use Rattle.proc_model.specs.Memory.{MemoryState}
use Rattle.proc_model.specs.MemoryChanges.{stored}
use Rattle.proc_model.specs.declared.own.Own.{Own}
use Rattle.os9_base.specs.UserNames.{user_cell, run_bytes}
use Rattle.proc_model.specs.declared.program_name.ProgramName.{ProgramName}
use Rattle.proc_model.specs.declared.program_name.ProgramName.TheVariants.{Unreadable, OneName, PathList}
use Rattle.proc_model.specs.Processes.{Processes, no_own, regs_at, cells_at}
use Rattle.proc_model.specs.ModuleLinks.{Entered, found_entry, header_address}
use Rattle.proc_model.specs.CallResult.{CallResult, needs, refuses}
use Rattle.proc_model.specs.UserBytes.{user_bytes}

-- ---- its name

-- the byte of a slash
abbrev pub slash : ℕ
slash = 47

-- the bytes end in a slash
abbrev pub ends_in_slash : List ℕ → Bool
ends_in_slash bytes = unwrap_or (slice_get bytes (length bytes - 1)) 0 == slash

-- the name that the bytes of a run are, if they are one
abbrev pub name_of_run : List ℕ → ProgramName
name_of_run bytes = option_map_or OneName (parsed_name bytes) PathList

-- the same for a run that ends in a slash, by the byte after it: a character of a name makes it a path list
abbrev pub name_before_slash : List ℕ → Option ℕ → ProgramName
name_before_slash bytes None = Unreadable
name_before_slash bytes (Some byte) = if is_name_character (low_bits byte) then PathList else name_of_run bytes

-- the same for the run at an address: the byte after a slash is read
abbrev pub name_by_run : Cells → ℕ → List ℕ → ProgramName
name_by_run cells at bytes =
    if ends_in_slash bytes then name_before_slash bytes (user_cell cells (at + length bytes)) else name_of_run bytes

-- What the bytes at an address name. They are one name unless they begin with a slash, or a slash and a character of a
-- name follow the first name; otherwise they are a path list, or nothing that names a program.
abbrev pub program_name : Cells → ℕ → ProgramName
program_name cells at = option_map_or (name_by_run cells at) (run_bytes cells at 30) Unreadable

-- a byte that has to be read is missing
abbrev pub is_unreadable : ProgramName → Bool
is_unreadable Unreadable = true
is_unreadable (OneName name) = false
is_unreadable PathList = false

-- the name of the entered module that is meant, if the bytes are one name
abbrev pub module_name : ProgramName → Option (List ℕ)
module_name Unreadable = None
module_name (OneName name) = Some name
module_name PathList = None

-- what the bytes at X name
abbrev pub name_at_x : Processes → ℕ → ProgramName
name_at_x s p = program_name (cells_at s p) (regs_at s p).x

-- ---- its type

-- the type and language of 6809 programs
abbrev pub program_kind : ℕ
program_kind = 0x11

-- the types and languages that a call may ask for: any, or a program in any language or in 6809 code
abbrev pub asks_for_program : ℕ → Bool
asks_for_program kind = (kind == 0) || (kind == 0x10) || (kind == program_kind)

-- ---- its data area

-- the number of pages of 256 bytes for this number of bytes
abbrev pub page_count : ℕ → ℕ
page_count bytes = (bytes + 255) / 256

-- the pages of a new data area: at least one, those of the module's storage, those that the call asks for, those of the
-- parameters
abbrev pub area_pages : ModuleEntry → ℕ → ℕ → ℕ
area_pages entry pages parameters = max 1 (max (page_count entry.info.storage) (max pages (page_count parameters)))

-- the most pages of a data area
abbrev pub most_pages : ℕ
most_pages = MOST_GROUP_BYTES / 256

-- the number of blocks of 8,192 bytes for this number of pages
abbrev pub blocks_of_pages : ℕ → ℕ
blocks_of_pages pages = (pages + 31) / 32

-- ---- what is started

-- a program to be started: its module, the pages of its data area, the bytes of its parameters, and the length of its
-- name
pub record Program : Type 0 where
  pub entered : Entered
  pub pages : ℕ
  pub parameters : List ℕ
  pub count : ℕ

-- the slot at which the group of the program begins in its map: the highest slots are the group's
abbrev pub program_slot : Program → ℕ
program_slot program = 8 - length program.entered.entry.group

-- the size of its data area in bytes
abbrev pub area_size : Program → ℕ
area_size program = 256 * program.pages

-- the address of its parameters: they end at the end of the data area
abbrev pub parameters_at : Program → ℕ
parameters_at program = area_size program - length program.parameters

-- the registers with which it starts
abbrev pub start_regs : Program → Regs
start_regs program = record {
  a = length program.parameters / 256;
  b = length program.parameters % 256;
  dp = 0;
  cc = 0;
  x = parameters_at program;
  y = area_size program;
  u = 0;
  s = parameters_at program;
  pc = header_address (program_slot program) program.entered.entry + program.entered.entry.info.entry;
}

-- its data other than its record and its memory
abbrev pub start_own : Program → Own
start_own program =
    record no_own {
      size =
          area_size program;
      primary = Some (record { 0 = program.entered.number });
      links = slice_set (replicate 8 0) (program_slot program) 1;
    }

-- the memory with its parameters at the end of its data area
abbrev pub with_parameters : MemoryState → ℕ → Program → MemoryState
with_parameters m p program = stored m p (parameters_at program) program.parameters

-- the call goes on with the program that the registers of its process name
abbrev pub reads_program : Processes → ℕ → (Program → CallResult) → CallResult
reads_program s p next =
    refuses (is_unreadable (name_at_x s p)) E_BPADDR
    (needs (user_bytes (cells_at s p) (regs_at s p).u (regs_at s p).y) E_BPADDR
    (λ parameters. refuses (not (asks_for_program (regs_at s p).a)) E_NEMOD
    (needs (module_name (name_at_x s p)) E_BNAM
    (λ name. needs (found_entry s.memory.modules name (regs_at s p).a) E_MNF
    (λ found. refuses (not (found.entry.info.kind == program_kind)) E_NEMOD
    (next (record {
      entered = found;
      pages = area_pages found.entry (regs_at s p).b (length parameters);
      parameters = parameters;
      count = length name;
    })))))))
