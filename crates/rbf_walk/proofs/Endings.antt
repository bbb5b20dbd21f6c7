-- The last character of a stored name.
use Rattle.std.proofs.Common.{◌≡◌, ℕ, ◌+◌, ◌-◌, ◌<◌, ◌≤◌, ◌*◌, ◌%◌, zero, suc, Bool, true, false, not, ◌==◌, ◌&&◌, refl, ap, sym, ◌∙◌, subst, ⊎_elim, eq-eqb, arith}
use Rattle.std.specs.Prelude.{Option, Some, None, List, [], ◌∷◌, length, map, take, drop, get_or, if◌then◌else◌, nat_eq, nat_le, nat_lt, option_map, slice_index}
use Rattle.std.specs.List.{slice_get}
use Rattle.std.proofs.lemmas.Bool.{and_parts, both_ways, false≢true, cases_lt, lt-ltb}
use Rattle.std.proofs.lemmas.List.{get_or-take, get_or-drop, get_or-map, length-map}
use Rattle.std.proofs.lemmas.Option.{option_and_then_some, get_or_from_slice_get}
use Rattle.std.proofs.lemmas.Slice.Eq.{bytes_eq-Decides}
use Rattle.os9_base.specs.Name.{is_stored_character, low_bits, marked_run, if_name, stored_name, lower, IsName}
use Rattle.rbf_model.specs.Fields.{directory_entry}
use Rattle.rbf_model.specs.Walk.{same_names, entry_has_name}

-- the run up to the first byte with bit 7: that byte is its last character
pub record EndsAt (bytes run : List ℕ) : Type 0 where
  pub some : 1 ≤ length run
  pub marked : 128 ≤ get_or bytes (length run - 1) 0
  pub last : get_or run (length run - 1) 0 ≡ get_or bytes (length run - 1) 0 % 128

module _ (byte : ℕ) (bytes run : List ℕ) where
  one : (low : ℕ) → low ≡ byte % 128 → 128 ≤ byte → run ≡ low ∷ [] → EndsAt (byte ∷ bytes) run
  one low is high same = subst (EndsAt (byte ∷ bytes)) (sym same) (record { some = omega arith; marked = high; last = is })

  more : (rest : List ℕ) → EndsAt bytes rest → run ≡ byte ∷ rest → EndsAt (byte ∷ bytes) run
  more rest ends same =
      let some = ends.some in
      let place : suc (length rest) - 1 ≡ suc (length rest - 1) = omega arith in
      subst (EndsAt (byte ∷ bytes)) (sym same) (record {
        some = omega arith;
        marked = subst (λ k. 128 ≤ get_or (byte ∷ bytes) k 0) (sym place) ends.marked;
        last = subst (λ k. get_or (byte ∷ rest) k 0 ≡ get_or (byte ∷ bytes) k 0 % 128) (sym place) ends.last;
      })

  module _ (later : (rest : List ℕ) → marked_run bytes ≡ Some rest → EndsAt bytes rest) where
    by_rest : (o : Option (List ℕ)) → marked_run bytes ≡ o → option_map (λ r. byte ∷ r) o ≡ Some run → EndsAt (byte ∷ bytes) run
    by_rest None found is = cc
    by_rest (Some rest) found is = let same : run ≡ byte ∷ rest = cc in more rest (later rest found) same

    by_stored : (s t : Bool) → nat_lt byte 128 ≡ t → (if s then (if t then option_map (λ r. byte ∷ r) (marked_run bytes) else Some (low_bits byte ∷ [])) else None) ≡ Some run
        → EndsAt (byte ∷ bytes) run
    by_stored false t small is = cc
    by_stored true true small is = by_rest (marked_run bytes) refl is
    by_stored true false small is =
        let same : run ≡ low_bits byte ∷ [] = cc in
        one (low_bits byte) refl (⊎_elim (λ low. absurd (both_ways (nat_lt byte 128) small (lt-ltb byte 128 low))) (λ high. high) (cases_lt byte 128)) same

pub ends_at : (bytes run : List ℕ) → marked_run bytes ≡ Some run → EndsAt bytes run
ends_at [] run h = cc
ends_at (byte ∷ bytes) run h = by_stored byte bytes run (λ rest found. ends_at bytes rest found) (is_stored_character (low_bits byte)) (nat_lt byte 128) refl h

-- a stored name is such a run
pub run_is : (bytes name : List ℕ) → stored_name bytes ≡ Some name → marked_run bytes ≡ Some name
run_is bytes name h = option_and_then_some if_name (marked_run bytes) name h (λ run found named. found ∙ by_test (nat_le 1 (length run) && nat_le (length run) 29) run named)
  where
    by_test : (t : Bool) (run : List ℕ) → (if t then Some run else None) ≡ Some name → Some run ≡ Some name
    by_test true run is = is
    by_test false run is = cc

-- an entry that has the name ends as it does
pub record EndsAlike (name entry : List ℕ) : Type 0 where
  pub marked : 128 ≤ get_or entry (length name - 1) 0
  pub last : lower (get_or entry (length name - 1) 0 % 128) ≡ lower (get_or name (length name - 1) 0)

pub ends_alike : (name entry : List ℕ) → 1 ≤ length name → length name ≤ 29 → entry_has_name name entry ≡ true → EndsAlike name entry
ends_alike name entry some short has = by_name (stored_name (take 29 entry)) refl (and_parts (not (get_or entry 0 0 == 0)) (same_names name (stored_name (take 29 entry))) has).1
  where
    by_name : (o : Option (List ℕ)) → stored_name (take 29 entry) ≡ o → same_names name o ≡ true → EndsAlike name entry
    by_name None found same = absurd (false≢true same)
    by_name (Some other) found same =
        let agree : map lower name ≡ map lower other = (bytes_eq-Decides (map lower name) (map lower other)).0 same in
        let size : length name ≡ length other = sym (length-map name lower) ∙ ap length agree ∙ length-map other lower in
        let place : length other - 1 ≡ length name - 1 = omega arith in
        let ends = ends_at (take 29 entry) other (run_is (take 29 entry) other found) in
        let byte : get_or (take 29 entry) (length other - 1) 0 ≡ get_or entry (length name - 1) 0 =
        ap (λ k. get_or (take 29 entry) k 0) place ∙ get_or-take 29 entry (length name - 1) 0 (omega arith) in
        record {
          marked = subst (λ b. 128 ≤ b) byte ends.marked;
          last =
              ap (λ b. lower (b % 128)) (sym byte) ∙ ap lower (sym ends.last) ∙ ap (λ k. lower (get_or other k 0)) place ∙ sym (get_or-map lower other (length name - 1) 0 0 (omega arith))
              ∙ ap (λ xs. get_or xs (length name - 1) 0) (sym agree) ∙ get_or-map lower name (length name - 1) 0 0 (omega arith);
        }

-- before its last character a run has the bytes
module _ (byte : ℕ) (bytes run : List ℕ) (k : ℕ) (low : k + 1 < length run) where
  kept_at : (rest : List ℕ) → ((j : ℕ) → j + 1 < length rest → get_or rest j 0 ≡ get_or bytes j 0) → (i : ℕ) → i + 1 < suc (length rest) → get_or (byte ∷ rest) i 0 ≡ get_or (byte ∷ bytes) i 0
  kept_at rest later zero under = refl
  kept_at rest later (suc j) under = later j (omega arith)

  module _ (later : (rest : List ℕ) → marked_run bytes ≡ Some rest → (j : ℕ) → j + 1 < length rest → get_or rest j 0 ≡ get_or bytes j 0) where
    kept_by_rest : (o : Option (List ℕ)) → marked_run bytes ≡ o → option_map (λ r. byte ∷ r) o ≡ Some run → get_or run k 0 ≡ get_or (byte ∷ bytes) k 0
    kept_by_rest None found is = cc
    kept_by_rest (Some rest) found is =
        let same : run ≡ byte ∷ rest = cc in
        ap (λ xs. get_or xs k 0) same ∙ kept_at rest (later rest found) k (subst (λ (xs : List ℕ). k + 1 < length xs) same low)

    kept_by_stored : (s t : Bool) → (if s then (if t then option_map (λ r. byte ∷ r) (marked_run bytes) else Some (low_bits byte ∷ [])) else None) ≡ Some run
        → get_or run k 0 ≡ get_or (byte ∷ bytes) k 0
    kept_by_stored false t is = cc
    kept_by_stored true true is = kept_by_rest (marked_run bytes) refl is
    kept_by_stored true false is =
        let same : run ≡ low_bits byte ∷ [] = cc in
        let short : k + 1 < 1 = subst (λ (xs : List ℕ). k + 1 < length xs) same low in
        absurd (omega arith)

runs_at : (bytes run : List ℕ) → marked_run bytes ≡ Some run → (k : ℕ) → k + 1 < length run → get_or run k 0 ≡ get_or bytes k 0
runs_at [] run h k low = cc
runs_at (byte ∷ bytes) run h k low = kept_by_stored byte bytes run k low (λ rest found j under. runs_at bytes rest found j under) (is_stored_character (low_bits byte)) (nat_lt byte 128) h

-- an entry that has the name has its characters, with the case of letters ignored
pub agrees_at : (name entry : List ℕ) (k : ℕ) → length name ≤ 29 → k + 1 < length name → entry_has_name name entry ≡ true → lower (get_or entry k 0) ≡ lower (get_or name k 0)
agrees_at name entry k short low has = by_name (stored_name (take 29 entry)) refl (and_parts (not (get_or entry 0 0 == 0)) (same_names name (stored_name (take 29 entry))) has).1
  where
    by_name : (o : Option (List ℕ)) → stored_name (take 29 entry) ≡ o → same_names name o ≡ true → lower (get_or entry k 0) ≡ lower (get_or name k 0)
    by_name None found same = absurd (false≢true same)
    by_name (Some other) found same =
        let agree : map lower name ≡ map lower other = (bytes_eq-Decides (map lower name) (map lower other)).0 same in
        let size : length name ≡ length other = sym (length-map name lower) ∙ ap length agree ∙ length-map other lower in
        let byte : get_or other k 0 ≡ get_or entry k 0 = runs_at (take 29 entry) other (run_is (take 29 entry) other found) k (omega arith) ∙ get_or-take 29 entry k 0 (omega arith) in
        ap lower (sym byte) ∙ sym (get_or-map lower other k 0 0 (omega arith)) ∙ ap (λ xs. get_or xs k 0) (sym agree) ∙ get_or-map lower name k 0 0 (omega arith)

-- a byte that differs from such a character
pub differs_at : (name entry : List ℕ) (k here wanted byte character : ℕ) → IsName name → k + 1 < length name → byte ≡ slice_index entry k → slice_get name k ≡ Some character
    → here ≡ lower byte → wanted ≡ lower character → (here ≡ wanted → ⊥) → entry_has_name name entry ≡ true → false ≡ true
differs_at name entry k here wanted byte character valid low is at left right differ has =
    absurd (differ (left ∙ ap lower is ∙ agrees_at name entry k valid.short low has ∙ ap lower (get_or_from_slice_get name k character 0 at) ∙ sym right))

-- a capital letter has the low five bits of the small one
lower_bits : (c : ℕ) → lower c % 32 ≡ c % 32
lower_bits c = by_case (nat_le 65 c && nat_le c 90)
  where
    by_case : (t : Bool) → (if t then c + 32 else c) % 32 ≡ c % 32
    by_case true = omega arith
    by_case false = refl

low_five : (b : ℕ) → b % 32 ≡ lower (b % 128) % 32
low_five b = let bits = lower_bits (b % 128) in omega (arith, bits)

-- the character before the last one of such a name agrees in its low five bits
pub before_agrees : (name entry : List ℕ) (k byte character : ℕ) → IsName name → k + 1 < length name → byte ≡ slice_index entry k → slice_get name k ≡ Some character
    → entry_has_name name entry ≡ true → nat_eq (byte % 32) (character % 32) ≡ true
before_agrees name entry k byte character valid low is at has =
    let same : lower byte ≡ lower character = ap lower is ∙ agrees_at name entry k valid.short low has ∙ ap lower (get_or_from_slice_get name k character 0 at) in
    eq-eqb (byte % 32) (character % 32) (sym (lower_bits byte) ∙ ap (λ x. x % 32) same ∙ lower_bits character)

-- what fails a test that each entry with the name passes has it not
pub fails_test : (has passed : Bool) → (has ≡ true → passed ≡ true) → passed ≡ false → false ≡ has
fails_test true passed test fails = sym fails ∙ test refl
fails_test false passed test fails = refl

-- a byte of an entry is one of the sector
pub entry_byte : (sector : List ℕ) (i at place : ℕ) → at < 32 → place ≡ 32 * i + at → get_or (directory_entry sector i) at 0 ≡ get_or sector place 0
entry_byte sector i at place low is = get_or-take 32 (drop (32 * i) sector) at 0 low ∙ get_or-drop (32 * i) sector at 0 ∙ ap (λ k. get_or sector k 0) (sym is)

-- what the last byte of a place tells of an entry
module _ (name entry : List ℕ) (len byte : ℕ) (is : len ≡ length name) (valid : IsName name) (there : byte ≡ slice_index entry (len - 1)) where
  alike : entry_has_name name entry ≡ true → EndsAlike name entry
  alike = ends_alike name entry valid.not_empty valid.short

  place_is : byte ≡ get_or entry (length name - 1) 0
  place_is = there ∙ ap (λ k. get_or entry (k - 1) 0) is

  pub unmarked_differs : byte < 128 → entry_has_name name entry ≡ true → false ≡ true
  unmarked_differs low has = let high : 128 ≤ get_or entry (length name - 1) 0 = (alike has).marked in absurd (omega (arith, place_is))

  pub last_agrees : (b : ℕ) → b ≡ lower (slice_index name (len - 1)) → entry_has_name name entry ≡ true → nat_eq (byte % 32) (b % 32) ≡ true
  last_agrees b right has =
      let same : lower (byte % 128) ≡ b =
      ap (λ x. lower (x % 128)) place_is ∙ (alike has).last ∙ ap (λ k. lower (get_or name (k - 1) 0)) (sym is) ∙ sym right in
      eq-eqb (byte % 32) (b % 32) (low_five byte ∙ ap (λ x. x % 32) same)
