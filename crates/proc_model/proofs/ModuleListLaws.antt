-- The room of the module directory, the number that a new entry gets, and the entry of a number that is found.
use Rattle.std.proofs.Common.{◌≡◌, ℕ, zero, suc, ◌+◌, ◌<◌, ◌≤◌, nat_lt, cond, not, Bool, true, false, Option, Some, None, is_none, option_and_then, MatchOption, List, [], ◌∷◌, length, get_or, position, refl, sym, ap, ◌∙◌, arith}
use Rattle.std.specs.List.{prefix_len}
use Rattle.std.proofs.lemmas.List.Recursion.{is_count_by}
use Rattle.std.proofs.lemmas.List.Quantifiers.{position-Some}
use Rattle.std.proofs.lemmas.Option.{slice_get-get_or}
use Rattle.std.proofs.lemmas.Bool.{ltb-true, ltb-false, false≢true}
use Rattle.proc_model.specs.ModuleList.{ModuleEntry, passes, module_room, free_number, module_entry_at, with_module_entry}

-- the places that no entry has, counted
nones : List (Option ModuleEntry) → ℕ
nones [] = 0
nones (None ∷ entries) = 1 + nones entries
nones (Some entry ∷ entries) = nones entries

nones_cons : (place : Option ModuleEntry) (entries : List (Option ModuleEntry)) → nones (place ∷ entries) ≡ cond (is_none place) (1 + nones entries) (nones entries)
unfolding nones
nones_cons None entries = refl
nones_cons (Some entry) entries = refl

nones_are_room : (entries : List (Option ModuleEntry)) → nones entries ≡ module_room entries
unfolding nones
nones_are_room = is_count_by nones is_none refl nones_cons

-- how many entries stand at the front
front : List (Option ModuleEntry) → ℕ
front entries = prefix_len (λ place. not (is_none place)) entries

front_le : (entries : List (Option ModuleEntry)) → front entries ≤ length entries
unfolding front
front_le [] = omega arith
front_le (None ∷ entries) = omega arith
front_le (Some entry ∷ entries) = omega (arith, front_le entries)

nones_of_full : (entries : List (Option ModuleEntry)) → front entries ≡ length entries → nones entries ≡ 0
unfolding front nones
nones_of_full [] h = refl
nones_of_full (None ∷ entries) h = absurd (omega arith)
nones_of_full (Some entry ∷ entries) h = nones_of_full entries (omega arith)

nones_of_room : (entries : List (Option ModuleEntry)) → front entries < length entries → 0 < nones entries
unfolding front nones
nones_of_room [] h = absurd (omega arith)
nones_of_room (None ∷ entries) h = omega arith
nones_of_room (Some entry ∷ entries) h = nones_of_room entries (omega arith)

nones_filled : (entries : List (Option ModuleEntry)) (number : ℕ) (entry : ModuleEntry) → number ≡ front entries
    → number < length entries → nones (with_module_entry entries number entry) + 1 ≡ nones entries
unfolding front nones
nones_filled [] number entry h within = absurd (omega arith)
nones_filled (None ∷ entries) zero entry h within = omega arith
nones_filled (None ∷ entries) (suc number) entry h within = absurd (omega arith)
nones_filled (Some other ∷ entries) zero entry h within = absurd (omega arith)
nones_filled (Some other ∷ entries) (suc number) entry h within = nones_filled entries number entry (omega arith) (omega arith)

-- a number is free exactly where there is room
pub room_by_number : (entries : List (Option ModuleEntry)) → MatchOption (free_number entries) (module_room entries ≡ 0) (λ number. 0 < module_room entries)
unfolding front
room_by_number entries =
    let k : ℕ = front entries in
    let C : Bool → Type 0 = λ b. nat_lt k (length entries) ≡ b → MatchOption (cond b (Some k) None) (module_room entries ≡ 0) (λ number. 0 < module_room entries) in
    let cases : (b : Bool) → C b = λ b. elim b as C [
      | true ↦ λ e. omega (arith, nones_are_room entries, nones_of_room entries (ltb-true k (length entries) e))
      | false ↦ λ e. sym (nones_are_room entries) ∙ nones_of_full entries (omega (arith, front_le entries, ltb-false k (length entries) e))
    ] in
    cases (nat_lt k (length entries)) refl

-- a new entry takes one place
pub room-with_entry : (entries : List (Option ModuleEntry)) (number : ℕ) (entry : ModuleEntry) → free_number entries ≡
    Some number → module_room (with_module_entry entries number entry) + 1 ≡ module_room entries
unfolding front
room-with_entry entries number entry h =
    let k : ℕ = front entries in
    let C : Bool → Type 0 = λ b. nat_lt k (length entries) ≡ b → cond b (Some k) None ≡ Some number → (number ≡ k) × (number < length entries) in
    let cases : (b : Bool) → C b = λ b. elim b as C [
      | true ↦ λ e s. (let same : number ≡ k = cc in (same, omega (arith, ltb-true k (length entries) e)))
      | false ↦ λ e s. absurd cc
    ] in
    let placed = cases (nat_lt k (length entries)) refl h in
    omega (arith, nones_are_room entries, nones_are_room (with_module_entry entries number entry), nones_filled entries number entry placed.0 placed.1)

-- what stands at a number after an entry was put there, and at any other
pub entry_at-with_entry_same : (entries : List (Option ModuleEntry)) (number : ℕ) (entry : ModuleEntry)
    → number < length entries → module_entry_at (with_module_entry entries number entry) number ≡ Some entry
entry_at-with_entry_same [] number entry within = absurd (omega arith)
entry_at-with_entry_same (place ∷ entries) zero entry within = refl
entry_at-with_entry_same (place ∷ entries) (suc number) entry within = entry_at-with_entry_same entries number entry (omega arith)

pub entry_at-with_entry_other : (entries : List (Option ModuleEntry)) (number other : ℕ) (entry : ModuleEntry)
    → (other ≡ number → ⊥) → module_entry_at (with_module_entry entries number entry) other ≡ module_entry_at entries
    other
entry_at-with_entry_other [] number other entry apart = refl
entry_at-with_entry_other (place ∷ entries) zero zero entry apart = absurd (apart refl)
entry_at-with_entry_other (place ∷ entries) zero (suc other) entry apart = refl
entry_at-with_entry_other (place ∷ entries) (suc number) zero entry apart = refl
entry_at-with_entry_other (place ∷ entries) (suc number) (suc other) entry apart = entry_at-with_entry_other entries number other entry (λ e. apart (ap suc e))

-- a number that is found is that of an entry
pub found_entry : (test : ModuleEntry → Bool) (entries : List (Option ModuleEntry)) (number : ℕ)
    → position (passes test) entries ≡ Some number → (entry : ModuleEntry) × (module_entry_at entries number ≡ Some
    entry)
found_entry test entries number is =
    let here = position-Some (passes test) entries number None is in by_place here.0 here.1 (get_or entries number None) refl
  where
    by_place : number < length entries → passes test (get_or entries number None) ≡ true
        → (place : Option ModuleEntry) → get_or entries number None ≡ place → (entry : ModuleEntry) ×
        (module_entry_at entries number ≡ Some entry)
    by_place within passed None same = absurd (false≢true (ap (passes test) (sym same) ∙ passed))
    by_place within passed (Some entry) same =
        (entry, ap (option_and_then (λ place. place)) (slice_get-get_or entries number None within ∙ ap (λ (place : Option ModuleEntry). Some place) same))
