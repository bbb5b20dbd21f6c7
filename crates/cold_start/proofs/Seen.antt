-- What the module directory of the machine has by what the kernel's has.
use Rattle.std.proofs.Common.{◌≡◌, ◌+◌, ◌==◌, ◌&&◌, ◌||◌, nat_le, if◌then◌else◌, ℕ, Bool, true, Option, Some, None, is_none, is_some, IsSome, option_map, List, [], ◌∷◌, length, cond, refl, sym, ap, ◌∙◌}
use Rattle.std.specs.Prelude.{IsSomeAnd}
use Rattle.std.proofs.lemmas.List.{length-map}
use Rattle.std.proofs.lemmas.List.Sums.{sum_by-cons}
use Rattle.std.proofs.lemmas.Option.{none-some, same_Some}
use Rattle.os9_base.specs.declared.errors.TheConstants.{E_DIRFUL, E_KWNMOD}
use Rattle.guest_memory.specs.declared.memory.Memory.{Memory}
use Rattle.guest_memory.specs.Tie.{RepresentsMemory, modules_of}
use Rattle.guest_memory.proofs.Seen.{entry-seen}
use Rattle.module_dir.proofs.Lists.{position-is_none}
use Rattle.guest_memory.specs.Renaming.{renamed_entry, renamed_modules}
use Rattle.proc_model.specs.declared.module.ModuleInfo.{ModuleInfo}
use Rattle.proc_model.specs.Loading.{entry_refusal}
use Rattle.proc_model.specs.Memory.{MemoryState}
use Rattle.proc_model.specs.ModuleList.{ModuleEntry, module_entry_at, are_namesakes, revision_of, is_known, module_room, free_number}
use Rattle.proc_state.proofs.Entered.{entered-tied}

module _ (number : ℕ → ℕ) where
  known-renamed : (entries : List (Option ModuleEntry)) (info : ModuleInfo) → is_known (renamed_modules number entries) info ≡ is_known entries info
  known-renamed [] info = refl
  known-renamed (None ∷ entries) info = known-renamed entries info
  known-renamed (Some entry ∷ entries) info =
      ap (λ (rest : Bool). (are_namesakes info entry.info && nat_le (revision_of info) (revision_of entry.info)) || rest) (known-renamed entries info)

  room-renamed : (entries : List (Option ModuleEntry)) → module_room (renamed_modules number entries) ≡ module_room entries
  room-renamed [] = refl
  room-renamed (place ∷ entries) =
      sum_by-cons one (option_map (renamed_entry number) place) (renamed_modules number entries)
      ∙ ap (λ (n : ℕ). n + module_room (renamed_modules number entries)) (same place)
      ∙ ap (λ (n : ℕ). one place + n) (room-renamed entries)
      ∙ sym (sum_by-cons one place entries)
    where
      one : Option ModuleEntry → ℕ
      one place = cond (is_none place) 1 0

      same : (place : Option ModuleEntry) → one (option_map (renamed_entry number) place) ≡ one place
      same None = refl
      same (Some entry) = refl

-- the directory of the machine takes the modules that the kernel's takes
pub refusal-seen : (memory : Memory) (m : MemoryState) → RepresentsMemory memory m → (info : ModuleInfo) → entry_refusal m.modules info ≡ entry_refusal (modules_of memory) info
refusal-seen memory m tied info =
    ap (λ (s : MemoryState). entry_refusal s.modules info) tied.is
    ∙ (λ i. if known-renamed tied.number memory.dir info i then Some E_KWNMOD else (if room-renamed tied.number memory.dir i == 0 then Some E_DIRFUL else None))

-- the next number of both is the same
pub free-seen : (memory : Memory) (m : MemoryState) → RepresentsMemory memory m → free_number m.modules ≡ free_number (modules_of memory)
free-seen memory m tied =
    ap (λ (s : MemoryState). free_number s.modules) tied.is ∙ position-is_none (renamed_entry tied.number) memory.dir

-- an entry of the machine's directory is one of the kernel's, with as many blocks in its group
pub entered-here : (memory : Memory) (m : MemoryState) → RepresentsMemory memory m → (number : ℕ) (entry : ModuleEntry)
    → module_entry_at m.modules number ≡ Some entry → IsSomeAnd (module_entry_at (modules_of memory) number)
    (λ here. length here.group ≡ length entry.group)
entered-here memory m tied number entry is = by_place (module_entry_at (modules_of memory) number) (sym (entry-seen memory m tied number) ∙ is)
  where
    by_place : (place : Option ModuleEntry) → option_map (renamed_entry tied.number) place ≡ Some entry → IsSomeAnd place (λ here. length here.group ≡ length entry.group)
    by_place None same = absurd (none-some entry same)
    by_place (Some here) same =
        sym (length-map here.group tied.number) ∙ ap (λ (e : ModuleEntry). length e.group) (same_Some (renamed_entry tied.number here) entry same)

-- it is entered
pub some-here : (memory : Memory) (m : MemoryState) → RepresentsMemory memory m → (number : ℕ) (entry : ModuleEntry)
    → module_entry_at m.modules number ≡ Some entry → IsSome (module_entry_at (modules_of memory) number)
some-here memory m tied number entry is = sym (entered-tied memory m tied number) ∙ ap is_some is

-- an entry of the kernel's directory is one of the machine's
pub entry-there : (memory : Memory) (m : MemoryState) → RepresentsMemory memory m → (number : ℕ)
    → IsSome (module_entry_at (modules_of memory) number) → (entry : ModuleEntry) × (module_entry_at m.modules number
    ≡ Some entry)
entry-there memory m tied number some = by_place (module_entry_at m.modules number) (entered-tied memory m tied number ∙ some)
  where
    by_place : (place : Option ModuleEntry) → is_some place ≡ true → (entry : ModuleEntry) × (place ≡ Some entry)
    by_place None some = absurd cc
    by_place (Some entry) some = (entry, refl)
