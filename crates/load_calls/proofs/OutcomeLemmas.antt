-- A file that is loaded: its entries, its first module and its memory.
use Rattle.std.proofs.Common.{◌≡◌, ◌∙◌, ℕ, false, true, Bool, Option, Some, None, is_some, IsSome, option_and_then, option_map, Result, Ok, Err, List, refl, ap, sym, subst, if◌then◌else◌}
use Rattle.std.specs.Option.{option_map_or}
use Rattle.std.proofs.lemmas.Option.{none-some, same_Some}
use Rattle.os9_base.specs.declared.errors.TheConstants.{E_BMID, E_NORAM}
use Rattle.guest_memory.specs.declared.memory.Memory.{Memory}
use Rattle.guest_memory.specs.Tie.{RepresentsMemory, modules_of}
use Rattle.proc_model.specs.declared.module.ModuleInfo.{ModuleInfo}
use Rattle.proc_model.specs.Loading.{EntersModules}
use Rattle.proc_model.specs.Memory.{MemoryState, wants_blocks}
use Rattle.proc_model.specs.MemoryChanges.{new_numbers}
use Rattle.proc_model.specs.ModuleList.{ModuleEntry, free_number, module_entry_at, new_entry}
use Rattle.proc_model.specs.Objects.{file_blocks}
use Rattle.proc_model.proofs.LoadingLemmas.{Enters-one}
use Rattle.proc_model.specs.ModuleLinks.{Entered, entered_at}
use Rattle.proc_state.proofs.Entered.{entered-tied}
use Rattle.file_rules.specs.Load.{Loaded, Loads, first_entered, loaded_by, with_file_entered}
use Rattle.load_calls.proofs.LoadedLemmas.{still-there}
use Rattle.load_calls.specs.Entering.{AnswersTrial, TriesFile}

-- what a file that is loaded comes to
pub record IsLoaded (m : MemoryState) (file : List ℕ) (loaded : Loaded) : Type 0 where
  pub after : List (Option ModuleEntry)
  pub enters : EntersModules file (new_numbers m (file_blocks file)) false 0 m.modules (Ok after)
  pub first_is : first_entered m after ≡ Some loaded.first
  pub room : wants_blocks m (file_blocks file) ≡ false
  pub memory_is : loaded.memory ≡ with_file_entered m file after

abbrev loaded-if : MemoryState → List ℕ → List (Option ModuleEntry) → Option Entered → Bool → Result Loaded ℕ
loaded-if m file after first wants =
    option_map_or {U = Result Loaded ℕ} (λ first. if wants then Err E_NORAM else Ok (record { first = first; memory = with_file_entered m file after })) first (Err E_BMID)

pub loads-ok : (m : MemoryState) (file : List ℕ) (loaded : Loaded) → Loads m file (Ok loaded) → IsLoaded m file loaded
loads-ok m file loaded loads = by loads.entries loads.modules loads.is
  where
    by_wants : (after : List (Option ModuleEntry)) (first : Entered) (wants : Bool) → Ok loaded ≡ loaded-if m file
        after (Some first) wants → (wants ≡ false) × (loaded ≡ record {
          first = first;
          memory = with_file_entered m
              file after;
        })
    by_wants after first true is = absurd cc
    by_wants after first false is = (refl, cc)

    by_first : (after : List (Option ModuleEntry)) (first : Option Entered) → EntersModules file
        (new_numbers m (file_blocks file)) false 0 m.modules (Ok after) → first_entered m after ≡ first
        → Ok loaded ≡ loaded-if m file after first (wants_blocks m (file_blocks file)) → IsLoaded m file loaded
    by_first after None enters e is = absurd cc
    by_first after (Some first) enters e is =
        let all = by_wants after first (wants_blocks m (file_blocks file)) is in record {
          after = after;
          enters = enters;
          first_is = e ∙ ap (λ (l : Loaded). Some l.first) (sym all.1);
          room = all.0;
          memory_is = ap (λ (l : Loaded). l.memory) all.1;
        }

    by : (entries : Result (List (Option ModuleEntry)) (ℕ × ℕ)) → EntersModules file
        (new_numbers m (file_blocks file)) false 0 m.modules entries → Ok loaded ≡ loaded_by m file entries
        → IsLoaded m file loaded
    by (Err refusal) enters is = absurd cc
    by (Ok after) enters is = by_first after (first_entered m after) enters refl is

-- a file comes to one thing
pub loads-one : (m : MemoryState) (file : List ℕ) (one other : Result Loaded ℕ) → Loads m file one → Loads m file other → one ≡ other
loads-one m file one other a b = a.is ∙ ap (loaded_by m file) (Enters-one a.modules b.modules) ∙ sym b.is

-- its first module is entered by the least number that was free
pub record IsFirst (m : MemoryState) (after : List (Option ModuleEntry)) (first : Entered) : Type 0 where
  pub number_is : free_number m.modules ≡ Some first.number
  pub entry_is : module_entry_at after first.number ≡ Some first.entry

pub first-found : (m : MemoryState) (after : List (Option ModuleEntry)) (first : Entered) → first_entered m after ≡ Some first → IsFirst m after first
first-found m after first is = by (free_number m.modules) refl is
  where
    by_entry : (number : ℕ) (place : Option ModuleEntry) → free_number m.modules ≡ Some number → module_entry_at after
        number ≡ place → option_map (λ (entry : ModuleEntry). let it : Entered = record
        { number = number; entry = entry } in it) place ≡ Some first → IsFirst m after first
    by_entry number None free e is = absurd (none-some first is)
    by_entry number (Some entry) free e is =
        subst (IsFirst m after) (same_Some (record { number = number; entry = entry }) first is) (record { number_is = free; entry_is = e })

    by : (free : Option ℕ) → free_number m.modules ≡ free → option_and_then (entered_at after) free ≡ Some first → IsFirst m after first
    by None free is = absurd (none-some first is)
    by (Some number) free is = by_entry number (module_entry_at after number) free refl is

-- the first module is there in the memory that has the file
pub first-there : (m : MemoryState) (file : List ℕ) (loaded : Loaded) → IsLoaded m file loaded → module_entry_at loaded.memory.modules loaded.first.number ≡ Some loaded.first.entry
first-there m file loaded it =
    ap (λ (s : MemoryState). module_entry_at s.modules loaded.first.number) it.memory_is ∙ (first-found m it.after loaded.first it.first_is).entry_is

-- the modules that are entered are so still
pub others-stay : (old new : Memory) (m : MemoryState) (file : List ℕ) (loaded : Loaded) → RepresentsMemory old m
    → IsLoaded m file loaded → RepresentsMemory new loaded.memory → (number : ℕ)
    → IsSome (module_entry_at (modules_of old) number) → IsSome (module_entry_at (modules_of new) number)
others-stay old new m file loaded tied it stands number some = by (module_entry_at m.modules number) refl (entered-tied old m tied number ∙ some)
  where
    by : (place : Option ModuleEntry) → module_entry_at m.modules number ≡ place → is_some place ≡ true → IsSome (module_entry_at (modules_of new) number)
    by None is some = absurd cc
    by (Some entry) is some =
        sym (entered-tied new loaded.memory stands number)
        ∙ ap (λ (s : MemoryState). is_some (module_entry_at s.modules number)) it.memory_is
        ∙ ap is_some (still-there number entry it.enters is)

-- ---- a file that was tried

-- a file that was tried, and is not refused
pub record IsTried (m : MemoryState) (file : List ℕ) (info : ModuleInfo) : Type 0 where
  pub loaded : Loaded
  pub loads : Loads m file (Ok loaded)
  pub first_is : loaded.first.entry ≡ new_entry info (new_numbers m (file_blocks file)) false

pub tried-ok : (m : MemoryState) (file : List ℕ) (info : ModuleInfo) → TriesFile file m (Ok info) → IsTried m file info
tried-ok m file info tried = by tried.outcome tried.loads tried.answers
  where
    by : (outcome : Result Loaded ℕ) → Loads m file outcome → AnswersTrial m file outcome (Ok info) → IsTried m file info
    by (Ok loaded) loads answers = record { loaded = loaded; loads = loads; first_is = answers }
    by (Err number) loads answers = absurd answers

-- or is
pub tried-refused : (m : MemoryState) (file : List ℕ) (number : ℕ) → TriesFile file m (Err number) → Loads m file (Err number)
tried-refused m file number tried = by tried.outcome tried.loads tried.answers
  where
    by : (outcome : Result Loaded ℕ) → Loads m file outcome → AnswersTrial m file outcome (Err number) → Loads m file (Err number)
    by (Ok loaded) loads answers = absurd answers
    by (Err refusal) loads answers = subst (λ (n : ℕ). Loads m file (Err n)) (sym answers) loads
