-- A new entry is one that a directory may have.
use Rattle.std.proofs.Common.{◌≡◌, ◌≤◌, ◌<◌, ℕ, zero, suc, ◌+◌, ◌-◌, ◌*◌, ◌/◌, ◌%◌, ◌^◌, ◌==◌, not, true, false, nat_le, nat_lt, lt-ltb, cond, eqb-true, Some, None, option_map, All, List, [], ◌∷◌, ◌++◌, length, replicate, length-append, refl, sym, ap, ◌∙◌, ⊎_elim, arith}
use Rattle.std.specs.Prelude.{map}
use Rattle.std.specs.Option.{option_and_then}
use Rattle.std.specs.List.{position_or_len}
use Rattle.std.proofs.lemmas.Bool.{and_from, le-leb, le-ltb, both_ways, false_from_ne_true, cond-true, cases_lt}
use Rattle.std.proofs.lemmas.List.{take_at, length-replicate}
use Rattle.std.proofs.lemmas.List.Sums.{fails_before_first}
use Rattle.std.proofs.lemmas.List.FromFn.{get_or-map-range_with_len, length-map-range_with_len}
use Rattle.std.proofs.lemmas.Slice.Eq.{bytes_eq-Decides}
use Rattle.std.proofs.Math.Nat.{mod-eq_of_lt}
use Rattle.os9_base.specs.Name.{is_stored_character, low_bits, lower, marked_run, if_name, stored_name, padded_name, SameName, IsName, marked_name}
use Rattle.rbf_model.specs.Fields.{directory_entry, descriptor_field, entry_name_field, is_used}
use Rattle.rbf_model.specs.Tree.{HasEntry, IsProper}
use Rattle.rbf_model.specs.Walk.{directory_entries, entry_has_name, same_names}
use Rattle.rbf_model.specs.Writes.{IsNewEntry}
use Rattle.rbf_change.specs.Names.{new_entry, is_dots, place_of}
use Rattle.rbf_sector.proofs.Written.{big_from-behind}
use Rattle.rbf_entries.proofs.EntryBytes.{stored_below, length_marked}

-- the name that its bytes are
marked_run-byte : (c : ℕ) (bytes : List ℕ) → is_stored_character c ≡ true → marked_run (c ∷ bytes) ≡ option_map (λ run. c ∷ run) (marked_run bytes)
marked_run-byte c bytes is =
    let low : low_bits c ≡ c = mod-eq_of_lt {n = c} {m = 128} (let b = stored_below c is in omega arith) in
    let small : nat_lt c 128 ≡ true = lt-ltb c 128 (let b = stored_below c is in omega arith) in
    rw (low, is, small) refl

marked_run-last : (c : ℕ) (bytes : List ℕ) → is_stored_character c ≡ true → marked_run ((c + 128) ∷ bytes) ≡ Some (c ∷ [])
marked_run-last c bytes is =
    let b : c ≤ 126 = stored_below c is in
    let low : low_bits (c + 128) ≡ c = omega arith in
    let large : nat_lt (c + 128) 128 ≡ false = le-ltb (c + 128) 128 (omega arith) in
    rw (low, is, large) refl

marked_run-marked : (c : ℕ) (name rest : List ℕ) → All (λ c. is_stored_character c ≡ true) (c ∷ name) → marked_run (marked_name (c ∷ name) ++ rest) ≡ Some (c ∷ name)
marked_run-marked c [] rest stored = marked_run-last c rest (stored 0 0 (omega arith))
marked_run-marked c (next ∷ name) rest stored =
    marked_run-byte c (marked_name (next ∷ name) ++ rest) (stored 0 0 (omega arith))
    ∙ ap (option_map (λ run. c ∷ run)) (marked_run-marked next name rest (λ k d below. stored (suc k) d (omega arith)))

stored_name-marked : (name rest : List ℕ) → IsName name → stored_name (marked_name name ++ rest) ≡ Some name
stored_name-marked [] rest is = absurd (omega (arith, is.not_empty))
stored_name-marked (c ∷ name) rest is =
    let run : marked_run (marked_name (c ∷ name) ++ rest) ≡ Some (c ∷ name) = marked_run-marked c name rest is.characters in
    let long : nat_le 1 (length (c ∷ name)) ≡ true = le-leb 1 (length (c ∷ name)) is.not_empty in
    let short : nat_le (length (c ∷ name)) 29 ≡ true = le-leb (length (c ∷ name)) 29 is.short in
    ap (option_and_then if_name) run ∙ simp (long, short)

pub padded_length : (name : List ℕ) → IsName name → length (padded_name (marked_name name)) ≡ 29
padded_length name is =
    let short = is.short in
    let zeros : List ℕ = replicate (29 - length (marked_name name)) 0 in
    let count : length zeros ≡ 29 - length (marked_name name) = length-replicate {A = ℕ} (29 - length (marked_name name)) 0 in
    omega (arith, length-append (marked_name name) zeros, count, length_marked name)

module _ (name : List ℕ) (n : ℕ) (is : IsName name) where
  abbrev number_bytes : List ℕ
  number_bytes = n / 65536 ∷ n / 256 % 256 ∷ n % 256 ∷ []

  pub new_length : length (new_entry name n) ≡ 32
  new_length = omega (arith, length-append (padded_name (marked_name name)) number_bytes, padded_length name is)

  pub new_number : n < 16777216 → descriptor_field (new_entry name n) ≡ n
  new_number low =
      let size = padded_length name is in
      big_from-behind 0 3 29 (padded_name (marked_name name)) number_bytes (omega arith) ∙ three_are n low
    where
      three_are : (m : ℕ) → m < 16777216 → m / 65536 * 256 ^ 2 + (m / 256 % 256 * 256 ^ 1 + (m % 256 * 256 ^ 0 + 0)) ≡ m
      three_are m low = omega arith

  pub new_name : entry_name_field (new_entry name n) ≡ Some name
  new_name =
      ap stored_name (take_at (padded_name (marked_name name)) number_bytes 29 (padded_length name is))
      ∙ stored_name-marked name (replicate (29 - length (marked_name name)) 0) is

-- its first byte is no zero
not_zero : (x : ℕ) → 1 ≤ x → not (x == 0) ≡ true
not_zero x some = ap not (false_from_ne_true (x == 0) (λ h. let e : x ≡ 0 = eqb-true x 0 h in absurd (omega arith)))

stored_some : (c : ℕ) → is_stored_character c ≡ true → 1 ≤ c
stored_some zero is = absurd (cc is)
stored_some (suc c) is = omega arith

pub new_used : (name : List ℕ) (n : ℕ) → IsName name → is_used (new_entry name n) ≡ true
new_used [] n is = absurd (omega (arith, is.not_empty))
new_used (c ∷ []) n is = not_zero (c + 128) (omega arith)
new_used (c ∷ next ∷ name) n is = not_zero c (stored_some c (is.characters 0 0 (omega arith)))

-- no entry has a name that is nowhere
none_below : (p q : ℕ) → cond (nat_lt p q) (Some p) None ≡ None → q ≤ p
none_below p q none = ⊎_elim
    (λ less. absurd (cc (sym (cond-true (nat_lt p q) (Some p) None (lt-ltb p q less)) ∙ none)))
    (λ more. more)
    (cases_lt p q)

module _ (contents name : List ℕ) (nowhere : place_of contents name ≡ None) where
  no_entry : (j : ℕ) → j < length contents / 32 → entry_has_name name (directory_entry contents j) ≡ false
  no_entry j below =
      let entries = directory_entries contents in
      let count : length entries ≡ length contents / 32 = length-map-range_with_len (directory_entry contents) 0 (length contents / 32) in
      let all : length entries ≤ position_or_len (entry_has_name name) entries = none_below (position_or_len (entry_has_name name) entries) (length entries) nowhere in
      ap (entry_has_name name) (sym (get_or-map-range_with_len (directory_entry contents) 0 (length contents / 32) j j [] below (omega arith)))
      ∙ fails_before_first (entry_has_name name) entries j [] (omega arith)

  pub differs : (j : ℕ) (other : List ℕ) → HasEntry contents j → entry_name_field (directory_entry contents j) ≡ Some other → SameName name other → ⊥
  differs j other has is same =
      let within = has.within in
      let agree : same_names name (entry_name_field (directory_entry contents j)) ≡ true = ap (same_names name) is ∙ (bytes_eq-Decides (map lower name) (map lower other)).1 same in
      both_ways (entry_has_name name (directory_entry contents j)) (no_entry j (omega arith))
      (and_from (is_used (directory_entry contents j)) (same_names name (entry_name_field (directory_entry contents j))) has.used agree)

pub is_proper : (name : List ℕ) → is_dots name ≡ false → IsProper name
is_proper name none = record {
  not_self = λ same. both_ways (is_dots name) none (ap (λ xs. is_dots xs) same);
  not_parent = λ same. both_ways (is_dots name) none (ap (λ xs. is_dots xs) same);
}

pub may_enter : (contents name : List ℕ) (i n : ℕ) → IsName name → is_dots name ≡ false → place_of contents name ≡ None → IsNewEntry contents i (new_entry name n) (descriptor_field (new_entry name n))
may_enter contents name i n is none nowhere = record {
  name = name;
  used = new_used name n is;
  is = record { name_is = new_name name n is; descriptor = refl };
  proper = is_proper name none;
  differs = λ j other _ _ has named same. differs contents name nowhere j other has named same;
}
