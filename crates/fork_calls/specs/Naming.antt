-- The program that a call names (System Programmer's Manual, F$Fork and F$Chain).
use Rattle.std.specs.Prelude.{◌≡◌, ℕ, ◌==◌, not, Option, Some, List, length, take}
use Rattle.os9_base.specs.declared.errors.TheConstants.{E_NEMOD, E_BNAM, E_MNF}
use Rattle.proc_model.specs.ModuleList.{ModuleEntry, module_entry_at}
use Rattle.proc_model.specs.CallResult.{CallResult, refused, needs, refuses}
use Rattle.proc_model.specs.Processes.{Processes}
use Rattle.proc_model.specs.ModuleLinks.{Entered, found_entry}
use Rattle.proc_model.specs.Program.{Program, program_kind, asks_for_program, reads_program}
use Rattle.fork_calls.specs.declared.program.NamedProgram.{NamedProgram}

-- the call goes on with the entered program of this name, if there is a name, and of this type and language
abbrev pub finds_program : List (Option ModuleEntry) → ℕ → Option (List ℕ) → (List ℕ → Entered → CallResult)
    → CallResult
finds_program entries kind read next =
    refuses (not (asks_for_program kind)) E_NEMOD
    (needs read E_BNAM
    (λ name. needs (found_entry entries name kind) E_MNF
    (λ found. refuses (not (found.entry.info.kind == program_kind)) E_NEMOD (next name found))))

-- a call goes on with this program, whose name has this length
pub record IsProgramFound (entries : List (Option ModuleEntry)) (kind : ℕ) (read : Option (List ℕ)) (number count : ℕ)
    : Type 0 where
  pub name : List ℕ
  pub entry : ModuleEntry
  pub long : length name ≡ count
  pub is : module_entry_at entries number ≡ Some entry
  pub goes : (next : List ℕ → Entered → CallResult)
      → finds_program entries kind read next ≡ next name (record { number = number; entry = entry })

-- a call that finds no program is refused with this number
abbrev pub IsUnfound : List (Option ModuleEntry) → ℕ → Option (List ℕ) → ℕ → Type 0
IsUnfound entries kind read number =
    (next : List ℕ → Entered → CallResult) → finds_program entries kind read next ≡ refused number

-- the program that is meant, from the entry of its module and the bytes of its parameters
abbrev pub meant : NamedProgram → ModuleEntry → List ℕ → Program
meant program entry bytes = record {
  entered = record { number = program.id.0; entry = entry };
  pages = program.pages;
  parameters = bytes;
  count = program.count;
}

-- a call goes on with this program, whose parameters are at the front of a buffer
pub record IsProgramRead (m : Processes) (p : ℕ) (program : NamedProgram) (buffer : List ℕ) : Type 0 where
  pub entry : ModuleEntry
  pub is : module_entry_at m.memory.modules program.id.0 ≡ Some entry
  pub goes : (next : Program → CallResult)
      → reads_program m p next ≡ next (meant program entry (take program.parameters buffer))

-- a call that names no program is refused with this number
abbrev pub IsUnread : Processes → ℕ → ℕ → Type 0
IsUnread m p number = (next : Program → CallResult) → reads_program m p next ≡ refused number
