-- The modules of a file are entered in the same way whatever the numbers of their group are.
use Rattle.std.proofs.Common.{◌≡◌, ◌+◌, ◌==◌, ◌||◌, ℕ, Bool, Option, Some, None, is_none, option_map, Result, Ok, Err, List, [], ◌∷◌, map, cond, position, refl, sym, ap, ◌∙◌, subst}
use Rattle.std.specs.Option.{option_map_or}
use Rattle.std.specs.Prelude.{if◌then◌else◌}
use Rattle.std.proofs.lemmas.List.{map-set}
use Rattle.std.proofs.lemmas.List.Sums.{sum_by-cons}
use Rattle.module_dir.proofs.Lists.{position-map, position-is_none}
use Rattle.proc_model.specs.ModuleList.{ModuleEntry, passes, some_entry, is_known, is_shadowed, answers_to, found_module, module_room, free_number, new_entry, with_module_entry}
use Rattle.proc_model.specs.Loading.{EntersModules, at_end, broken, refused, entered, entry_refusal, with_module}
use Rattle.proc_model.specs.declared.module.ModuleInfo.{ModuleInfo}
use Rattle.guest_memory.specs.Renaming.{renamed_entry, renamed_modules}

module _ (number : ℕ → ℕ) where
  -- a test that does not look at the group
  some_entry-renamed : (test : ModuleEntry → Bool) → ((entry : ModuleEntry) → test (renamed_entry number entry) ≡ test
      entry) → (entries : List (Option ModuleEntry)) → some_entry test (renamed_modules number entries) ≡ some_entry
      test entries
  some_entry-renamed test same [] = refl
  some_entry-renamed test same (None ∷ entries) = some_entry-renamed test same entries
  some_entry-renamed test same (Some entry ∷ entries) =
      ap (λ (first : Bool). first || some_entry test (renamed_modules number entries)) (same entry) ∙ ap (λ (rest : Bool). test entry || rest) (some_entry-renamed test same entries)

  is_known-renamed : (entries : List (Option ModuleEntry)) (info : ModuleInfo) → is_known (renamed_modules number entries) info ≡ is_known entries info
  is_known-renamed entries info = some_entry-renamed _ (λ entry. refl) entries

  is_shadowed-renamed : (entries : List (Option ModuleEntry)) (info : ModuleInfo) → is_shadowed (renamed_modules number entries) info ≡ is_shadowed entries info
  is_shadowed-renamed entries info = some_entry-renamed _ (λ entry. refl) entries

  room_of-renamed : (entries : List (Option ModuleEntry)) → module_room (renamed_modules number entries) ≡ module_room entries
  room_of-renamed [] = refl
  room_of-renamed (place ∷ entries) =
      sum_by-cons one (option_map (renamed_entry number) place) (renamed_modules number entries)
      ∙ ap (λ (n : ℕ). n + module_room (renamed_modules number entries)) (same place)
      ∙ ap (λ (n : ℕ). one place + n) (room_of-renamed entries)
      ∙ sym (sum_by-cons one place entries)
    where
      one : Option ModuleEntry → ℕ
      one place = cond (is_none place) 1 0

      same : (place : Option ModuleEntry) → one (option_map (renamed_entry number) place) ≡ one place
      same None = refl
      same (Some entry) = refl

  refusal_of-renamed : (entries : List (Option ModuleEntry)) (info : ModuleInfo) → entry_refusal (renamed_modules number entries) info ≡ entry_refusal entries info
  refusal_of-renamed entries info =
      ap (λ (known : Bool). if known then Some 231 else (if module_room (renamed_modules number entries) == 0 then Some 206 else None)) (is_known-renamed entries info)
      ∙ ap (λ (room : ℕ). if is_known entries info then Some 231 else (if room == 0 then Some 206 else None)) (room_of-renamed entries)

  -- what is found has the same number
  pub found-renamed : (entries : List (Option ModuleEntry)) (name : List ℕ) (kind : ℕ) → found_module (renamed_modules number entries) name kind ≡ found_module entries name kind
  found-renamed entries name kind =
      position-map (option_map (renamed_entry number)) (passes (answers_to (renamed_modules number entries) name kind)) entries
      ∙ ap (λ (test : Option ModuleEntry → Bool). position test entries) (λ i place. same place i)
    where
      same : (place : Option ModuleEntry) → passes (answers_to (renamed_modules number entries) name kind) (option_map (renamed_entry number) place) ≡ passes (answers_to entries name kind) place
      same None = refl
      same (Some entry) = rw (is_shadowed-renamed entries entry.info) refl

  -- an entry that is put
  pub with_entry-renamed : (entries : List (Option ModuleEntry)) (place : ℕ) (entry : ModuleEntry) → with_module_entry
      (renamed_modules number entries) place (renamed_entry number entry) ≡ renamed_modules number
      (with_module_entry entries place entry)
  with_entry-renamed entries place entry = sym (map-set (option_map (renamed_entry number)) entries place (Some entry))

  pub with_module-renamed : (entries : List (Option ModuleEntry)) (info : ModuleInfo) (group : List ℕ)
      (is_boot : Bool) → with_module (renamed_modules number entries) info (map number group) is_boot ≡
      renamed_modules number (with_module entries info group is_boot)
  with_module-renamed entries info group is_boot =
      ap (λ (free : Option ℕ). option_map_or (λ place. with_module_entry (renamed_modules number entries) place
      (new_entry info (map number group) is_boot)) free (renamed_modules number entries))
      (position-is_none (renamed_entry number) entries)
      ∙ by_place (free_number entries)
    where
      by_place : (free : Option ℕ) → option_map_or (λ place. with_module_entry (renamed_modules number entries) place
          (new_entry info (map number group) is_boot)) free (renamed_modules number entries) ≡ renamed_modules number
          (option_map_or (λ place. with_module_entry entries place (new_entry info group is_boot)) free entries)
      by_place None = refl
      by_place (Some place) = with_entry-renamed entries place (new_entry info group is_boot)

-- what comes of the modules, with other numbers
abbrev pub renamed_outcome : (ℕ → ℕ) → Result (List (Option ModuleEntry)) (ℕ × ℕ) → Result (List (Option ModuleEntry)) (ℕ × ℕ)
renamed_outcome number (Ok entries) = Ok (renamed_modules number entries)
renamed_outcome number (Err refusal) = Err refusal

pub Enters-renamed : (number : ℕ → ℕ) {file group : List ℕ} {is_boot : Bool} {from : ℕ} {entries : List (Option ModuleEntry)} {outcome : Result (List (Option ModuleEntry)) (ℕ × ℕ)}
    → EntersModules file group is_boot from entries outcome → EntersModules file (map number group) is_boot from (renamed_modules number entries) (renamed_outcome number outcome)
Enters-renamed number (at_end none) = at_end none
Enters-renamed number (broken fault) = broken fault
Enters-renamed number {entries = entries} (refused {info = info} next why) = refused next (refusal_of-renamed number entries info ∙ why)
Enters-renamed number {file} {group} {is_boot} {entries = entries} {outcome = outcome} (entered {info = info} next fits rest) =
    entered next (refusal_of-renamed number entries info ∙ fits)
    (subst (λ list. EntersModules file (map number group) is_boot (info.at + info.size) list
    (renamed_outcome number outcome)) (sym (with_module-renamed number entries info group is_boot))
    (Enters-renamed number rest))
