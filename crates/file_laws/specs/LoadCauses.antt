-- Why F$Load, and F$Fork and F$Chain of a program in a file, are refused, except for the fault of a drive (System
-- Programmer's Manual, F$Load, F$Fork and F$Chain; Level Two manual, F$Load).
use Rattle.std.specs.Prelude.{◌≡◌, ◌≢◌, ◌⊎◌, ℕ, ◌+◌, ◌<◌, ◌≤◌, true, false, Option, Some, None, Result, Ok, Err, List, length}
use Rattle.os9_base.specs.declared.errors.TheConstants.{E_BMID, E_BPADDR, E_FNA, E_MEMFUL, E_NEMOD, E_NORAM, E_PRCFUL, E_PTHFUL}
use Rattle.os9_base.specs.declared.limits.TheConstants.{MOST_GROUP_BYTES}
use Rattle.proc_model.specs.Loading.{EntersModules}
use Rattle.proc_model.specs.Memory.{free_blocks, map_at}
use Rattle.proc_model.specs.MemoryChanges.{has_most_links, new_numbers}
use Rattle.proc_model.specs.ModuleList.{ModuleEntry}
use Rattle.proc_model.specs.Objects.{file_blocks}
use Rattle.proc_model.specs.declared.memory.TheConstants.{MOST_LINKS}
use Rattle.proc_model.specs.Records.{free_process}
use Rattle.proc_model.specs.Processes.{Processes, own_at, regs_at}
use Rattle.proc_model.specs.Link.{Mapped, links_at, mapped_group}
use Rattle.proc_model.specs.Program.{asks_for_program, blocks_of_pages, most_pages, program_kind}
use Rattle.io_model.specs.declared.modes.TheConstants.{MODE_EXECUTE}
use Rattle.file_rules.specs.Files.{Asker, Files}
use Rattle.file_rules.specs.Load.{Loaded, Loads, first_entered}
use Rattle.file_rules.specs.Open.{may_open}
use Rattle.file_rules.specs.Program.{loaded_program, parameters_of}
use Rattle.file_rules.specs.ProgramFile.{ProgramFile}
use Rattle.file_rules.specs.Route.{Found, to_device}
use Rattle.file_rules.specs.declared.path_call.PathCall.TheVariants as Call
use Rattle.file_laws.specs.Causes.{FileCause, FindsNamedFile, ListHasRoute}
use Rattle.file_laws.specs.Claims.{MadePathCall}

-- ---- the file

-- a file of modules is looked up as by I$Open, with the execution mode
abbrev pub looking : Asker → Files → ℕ → MadePathCall
looking asker files terms = record {
  call = Call.Open;
  asker = record asker {
    caller = record asker.caller { regs = record asker.caller.regs { a = MODE_EXECUTE } };
  };
  files = files;
  terms = terms;
}

-- why it is not read, by the number
pub data ReadCause (asker : Asker) (files : Files) (terms number : ℕ) : Type 0 where
  -- I$Open would be refused for the same reason; only I$Open needs a number for a path
  as_opened : number ≢ E_PTHFUL → FileCause (looking asker files terms) number → ReadCause asker files terms number
  to_a_device : number ≡ E_FNA → ListHasRoute (looking asker files terms) to_device → ReadCause asker files terms number
  too_long : (names : List (List ℕ)) (found : Found) → number ≡ E_MEMFUL
      → FindsNamedFile (looking asker files terms) names found → MOST_GROUP_BYTES < length found.file.contents
      → ReadCause asker files terms number

-- it is read: these are its bytes
pub record IsModuleFileRead (asker : Asker) (files : Files) (terms : ℕ) (file : ProgramFile) : Type 0 where
  pub names : List (List ℕ)
  pub found : Found
  pub finds : FindsNamedFile (looking asker files terms) names found
  pub may : may_open found.file asker.user MODE_EXECUTE ≡ true
  pub short : length found.file.contents ≤ MOST_GROUP_BYTES
  pub bytes : file.bytes ≡ found.file.contents

-- ---- its modules

-- its modules are tried one after another, with this outcome
abbrev pub EntersFileModules : Processes → List ℕ → Result (List (Option ModuleEntry)) (ℕ × ℕ) → Type 0
EntersFileModules m file outcome = EntersModules file (new_numbers m.memory (file_blocks file)) false 0 m.memory.modules
    outcome

-- why it is not in memory: the number is that of its first refused module, or it has no module, or it needs more blocks
-- than are free
pub data GroupCause (m : Processes) (file : List ℕ) (number : ℕ) : Type 0 where
  a_module : (at : ℕ) → EntersFileModules m file (Err (at, number)) → GroupCause m file number
  no_module : (entries : List (Option ModuleEntry)) → number ≡ E_BMID → EntersFileModules m file (Ok entries)
      → first_entered m.memory entries ≡ None → GroupCause m file number
  no_blocks : number ≡ E_NORAM → free_blocks m.memory < file_blocks file → GroupCause m file number

-- ---- the use of the file by the call

-- why F$Load does not link its first module
pub data LinkCause (m : Processes) (p : ℕ) (loaded : Loaded) (number : ℕ) : Type 0 where
  no_slots : number ≡ E_MEMFUL → mapped_group loaded.memory p loaded.first.entry.group ≡ None
      → LinkCause m p loaded number
  most_links : (mapped : Mapped) → number ≡ E_MEMFUL
      → mapped_group loaded.memory p loaded.first.entry.group ≡ Some mapped
      → MOST_LINKS ≤ links_at (own_at m p) mapped.slot → LinkCause m p loaded number

-- the numbers of pages and blocks in the data area of the program of a file
abbrev pub pages_for : Processes → ℕ → ProgramFile → Loaded → ℕ
pages_for m p file loaded = (loaded_program m p file loaded.first).pages

abbrev pub blocks_for : Processes → ℕ → ProgramFile → Loaded → ℕ
blocks_for m p file loaded = blocks_of_pages (pages_for m p file loaded)

-- why F$Fork and F$Chain do not start it in the process that begins, if there is one
pub data StartCause (m : Processes) (p : ℕ) (begins : Option ℕ) (file : ProgramFile) (loaded : Loaded) (number : ℕ)
    : Type 0 where
  no_program : number ≡ E_NEMOD → loaded.first.entry.info.kind ≢ program_kind
      → StartCause m p begins file loaded number
  no_process : number ≡ E_PRCFUL → begins ≡ None → StartCause m p begins file loaded number
  many_pages : number ≡ E_MEMFUL → most_pages < pages_for m p file loaded → StartCause m p begins file loaded number
  -- the module has the most links already, or its group and the data area need more than 8 slots
  no_place : (q : ℕ) → begins ≡ Some q → number ≡ E_MEMFUL
      → (has_most_links loaded.first.entry ≡ true)
      ⊎ 8 < blocks_for m p file loaded + length loaded.first.entry.group
      → StartCause m p begins file loaded number
  -- fewer blocks are free than the data area needs, counting those of the process's old data area as free
  no_memory : (q : ℕ) → begins ≡ Some q → number ≡ E_NORAM
      → free_blocks loaded.memory + (map_at loaded.memory q).low < blocks_for m p file loaded
      → StartCause m p begins file loaded number

-- the tests of F$Fork and F$Chain on their registers after the list was read
pub data TestCause (m : Processes) (p number : ℕ) : Type 0 where
  no_parameters : number ≡ E_BPADDR → parameters_of m p ≡ None → TestCause m p number
  other_type : number ≡ E_NEMOD → asks_for_program (regs_at m p).a ≡ false → TestCause m p number

-- ---- the cause of a refusal, by its number

-- for a call with these tests, and with these causes of refusal after the file is in memory
pub data CauseOfLoad (m : Processes) (asker : Asker) (files : Files) (terms : ℕ) (Tested : ℕ → Type 0)
    (Ends : ProgramFile → Loaded → ℕ → Type 0) (number : ℕ) : Type 0 where
  tested : Tested number → CauseOfLoad m asker files terms Tested Ends number
  not_read : ReadCause asker files terms number → CauseOfLoad m asker files terms Tested Ends number
  not_entered : (file : ProgramFile) → IsModuleFileRead asker files terms file → GroupCause m file.bytes number
      → CauseOfLoad m asker files terms Tested Ends number
  not_ended : (file : ProgramFile) (loaded : Loaded) → IsModuleFileRead asker files terms file
      → Loads m.memory file.bytes (Ok loaded) → Ends file loaded number
      → CauseOfLoad m asker files terms Tested Ends number

abbrev pub LoadCause : Processes → Asker → Files → ℕ → ℕ → ℕ → Type 0
LoadCause m asker files terms p number =
    CauseOfLoad m asker files terms (λ number. ⊥) (λ file. LinkCause m p) number

abbrev pub ForkCause : Processes → Asker → Files → ℕ → ℕ → ℕ → Type 0
ForkCause m asker files terms p number =
    CauseOfLoad m asker files terms (TestCause m p) (StartCause m p (free_process m.records)) number

abbrev pub ChainCause : Processes → Asker → Files → ℕ → ℕ → ℕ → Type 0
ChainCause m asker files terms p number =
    CauseOfLoad m asker files terms (TestCause m p) (StartCause m p (Some p)) number
