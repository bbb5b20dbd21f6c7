-- F$Load: loads a file of modules (System Programmer's Manual, F$Load).
-- Takes the path list at X; returns what F$Link returns for the file's first module, with X past the list. All modules
-- of the file are entered as one group, each tried by all rules before the next, and none if one is refused.
-- Errors: those of its file; E$BMID of a file without a module; E$BMID, E$BMHP, E$BMCRC, E$KwnMod and E$DirFul of the
-- first refused module; E$NoRAM; E$MemFul (no slots are left in the map, or no links).
use Rattle.std.specs.Prelude.{◌≡◌, ℕ, ◌-◌, false, nat_le, Option, option_and_then, Result, Ok, Err, List, ◌++◌, if◌then◌else◌}
use Rattle.std.specs.Option.{option_map_or}
use Rattle.os9_base.specs.declared.errors.TheConstants.{E_BMID, E_MEMFUL, E_NORAM}
use Rattle.proc_model.specs.Loading.{EntersModules}
use Rattle.proc_model.specs.Memory.{MemoryState, wants_blocks}
use Rattle.proc_model.specs.MemoryChanges.{new_numbers}
use Rattle.proc_model.specs.ModuleList.{ModuleEntry, free_number}
use Rattle.proc_model.specs.declared.memory.TheConstants.{MOST_LINKS}
use Rattle.proc_model.specs.Objects.{file_blocks, file_objects}
use Rattle.proc_model.specs.CallResult.{CallResult, done, refused, needs, refuses}
use Rattle.proc_model.specs.Processes.{Processes, own_at, regs_at}
use Rattle.proc_model.specs.Link.{mapped_group, after_link, links_at}
use Rattle.proc_model.specs.ModuleLinks.{Entered, entered_at}
use Rattle.file_rules.specs.Files.{Files, Asker}
use Rattle.file_rules.specs.ProgramFile.{ProgramFile, program_file, ReadsProgram}

-- a file in memory: its first module, and the memory
pub record Loaded : Type 0 where
  pub first : Entered
  pub memory : MemoryState

-- the first module of a file among these entries, which include those of the memory: it has the least number that was
-- free
abbrev pub first_entered : MemoryState → List (Option ModuleEntry) → Option Entered
first_entered m entries = option_and_then (entered_at entries) (free_number m.modules)

-- the memory with a file as a group of new objects, and with these entries
abbrev pub with_file_entered : MemoryState → List ℕ → List (Option ModuleEntry) → MemoryState
with_file_entered m file entries = record m { objects = m.objects ++ file_objects file; modules = entries }

-- a file in memory, by the result of entering its modules; or the number with which it is refused
abbrev pub loaded_by : MemoryState → List ℕ → Result (List (Option ModuleEntry)) (ℕ × ℕ) → Result Loaded ℕ
loaded_by m file (Err refusal) = Err refusal.1
loaded_by m file (Ok entries) =
    option_map_or (λ first.
    if wants_blocks m (file_blocks file) then Err E_NORAM
    else Ok (record { first = first; memory = with_file_entered m file entries }))
    (first_entered m entries) (Err E_BMID)

-- a file is loaded into the memory: the results for its modules, and for the file
pub record Loads (m : MemoryState) (file : List ℕ) (outcome : Result Loaded ℕ) : Type 0 where
  pub entries : Result (List (Option ModuleEntry)) (ℕ × ℕ)
  pub modules : EntersModules file (new_numbers m (file_blocks file)) false 0 m.modules entries
  pub is : outcome ≡ loaded_by m file entries

-- the result of a call by the result of reading its file: it is refused, or goes on with the file in memory
abbrev pub GoesOnLoaded : Processes → Result ProgramFile ℕ → (ProgramFile → Loaded → CallResult) → CallResult → Type 0
GoesOnLoaded s (Err number) next result = result ≡ refused number
GoesOnLoaded s (Ok file) next result =
    (outcome : Result Loaded ℕ) × Loads s.memory file.bytes outcome × (result ≡ by_outcome outcome)
  where
    by_outcome : Result Loaded ℕ → CallResult
    by_outcome (Err number) = refused number
    by_outcome (Ok loaded) = next file loaded

-- the process links the first module
abbrev pub links_first : Processes → ℕ → ProgramFile → Loaded → CallResult
links_first s p file loaded =
    needs (mapped_group loaded.memory p loaded.first.entry.group) E_MEMFUL
    (λ mapped. refuses (nat_le MOST_LINKS (links_at (own_at s p) mapped.slot)) E_MEMFUL
    (done (after_link s p loaded.first mapped (file.next - (regs_at s p).x))))

-- an attempt of F$Load, which has no test of its own
pub record LoadAttempts (s : Processes) (asker : Asker) (old : Files) (terms p : ℕ) (result : CallResult) (new : Files)
    : Type 0 where
  pub reading : Result ProgramFile ℕ
  pub reads : ReadsProgram (program_file asker old terms (λ step. step)) reading old new
  pub comes : GoesOnLoaded s reading (links_first s p) result
