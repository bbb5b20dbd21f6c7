-- The places of a directory's entries.
use Rattle.std.proofs.Common.{◌≡◌, ℕ, ◌+◌, ◌/◌, ◌<◌, ◌≤◌, Bool, true, false, not, Option, Some, None, List, [], length, get_or, ap, sym, ◌∙◌, arith, ltb, lt-ltb, cond, below_more, ⊎_elim}
use Rattle.std.specs.Prelude.{position, option_map, unwrap_or, MatchOption}
use Rattle.std.specs.List.{position_or_len, slice_get, find}
use Rattle.std.proofs.lemmas.Bool.{cond-true, cond-false, cases_lt, both_ways}
use Rattle.std.proofs.lemmas.List.Sums.{position_or_len_is}
use Rattle.std.proofs.lemmas.List.Folds.{find_at}
use Rattle.std.proofs.lemmas.List.Quantifiers.{position-Some}
use Rattle.std.proofs.lemmas.List.FromFn.{get_or-map-range_with_len, length-map-range_with_len}
use Rattle.std.proofs.lemmas.Option.{slice_get-get_or, slice_get_past}
use Rattle.rbf_model.specs.Fields.{directory_entry, descriptor_field, is_used}
use Rattle.rbf_model.specs.Walk.{directory_entries, entry_has_name}
use Rattle.rbf_change.specs.Names.{entry_place}
use Rattle.rbf_walk.specs.Search.{NonePasses, IsFirstMatch, IsNameFoundAt, IsAbsentName}

-- one more entry does not pass
pub none_one_more : (test : List ℕ → Bool) (bytes entry : List ℕ) (i : ℕ) (b : Bool) → NonePasses test bytes i → entry ≡ directory_entry bytes i → b ≡ test entry → b ≡ false
    → NonePasses test bytes (i + 1)
none_one_more test bytes entry i b none is tested fails = below_more (λ k. test (directory_entry bytes k) ≡ false) i none (ap test (sym is) ∙ sym tested ∙ fails)

-- the first that passes is this one
pub first_here : (test : List ℕ → Bool) (bytes entry : List ℕ) (count i : ℕ) (b : Bool) → i < count → NonePasses test bytes i → entry ≡ directory_entry bytes i → b ≡ test entry → b ≡ true
    → IsFirstMatch test bytes count i
first_here test bytes entry count i b below none is tested passes = record { below = below; passes = ap test (sym is) ∙ sym tested ∙ passes; before = none }

module _ (contents : List ℕ) where
  entry_is : (k : ℕ) → k < length contents / 32 → get_or (directory_entries contents) k [] ≡ directory_entry contents k
  entry_is k low = get_or-map-range_with_len (directory_entry contents) 0 (length contents / 32) k k [] low (omega arith)

  entry_count : length (directory_entries contents) ≡ length contents / 32
  entry_count = length-map-range_with_len (directory_entry contents) 0 (length contents / 32)

  module _ (test : List ℕ → Bool) where
    first_at : (i : ℕ) → IsFirstMatch test contents (length contents / 32) i → position_or_len test (directory_entries contents) ≡ i
    first_at i first =
        let below : i < length contents / 32 = first.below in
        position_or_len_is test (directory_entries contents) i [] (omega (arith, entry_count))
        (λ k low. ap test (entry_is k (omega arith)) ∙ first.before k low)
        (λ _. ap test (entry_is i below) ∙ first.passes)

    none_at : NonePasses test contents (length contents / 32) → position_or_len test (directory_entries contents) ≡ length (directory_entries contents)
    none_at none =
        position_or_len_is test (directory_entries contents) (length (directory_entries contents)) [] (omega arith)
        (λ k low. let there : k < length contents / 32 = omega (arith, entry_count) in ap test (entry_is k there) ∙ none k there)
        (λ low. absurd (omega arith))

    at : ℕ → Option ℕ
    at i = cond (ltb i (length (directory_entries contents))) (Some i) None

    pub position_first : (i : ℕ) → IsFirstMatch test contents (length contents / 32) i → position test (directory_entries contents) ≡ Some i
    position_first i first =
        let below : i < length contents / 32 = first.below in
        ap (λ j. cond (ltb j (length (directory_entries contents))) (Some j) None) (first_at i first)
        ∙ cond-true (ltb i (length (directory_entries contents))) (Some i) None (lt-ltb i (length (directory_entries contents)) (omega (arith, entry_count)))

    pub position_none : NonePasses test contents (length contents / 32) → position test (directory_entries contents) ≡ None
    position_none none =
        ap (λ j. cond (ltb j (length (directory_entries contents))) (Some j) None) (none_at none)
        ∙ cond-false (ltb (length (directory_entries contents)) (length (directory_entries contents))) (Some (length (directory_entries contents))) None (grind arith)

    -- none of the first so many passes, so the first that passes is behind them
    pub position_past : (count i : ℕ) → NonePasses test contents count → position test (directory_entries contents) ≡ Some i → count ≤ i
    position_past count i none there =
        let first = position-Some test (directory_entries contents) i [] there in
        let low : i < length (directory_entries contents) = first.0 in
        let below : i < length contents / 32 = omega (arith, entry_count) in
        ⊎_elim
        (λ early. absurd (both_ways (test (directory_entry contents i)) (none i early) (ap test (sym (entry_is i below)) ∙ first.1)))
        (λ late. late)
        (cases_lt i count)

    pub find_first : (i : ℕ) → IsFirstMatch test contents (length contents / 32) i → find test (directory_entries contents) ≡ Some (directory_entry contents i)
    find_first i first =
        let below : i < length contents / 32 = first.below in
        find_at test (directory_entries contents) ∙ ap (slice_get (directory_entries contents)) (first_at i first)
        ∙ slice_get-get_or (directory_entries contents) i [] (omega (arith, entry_count)) ∙ ap Some (entry_is i below)

    pub find_none : NonePasses test contents (length contents / 32) → find test (directory_entries contents) ≡ None
    find_none none =
        find_at test (directory_entries contents) ∙ ap (slice_get (directory_entries contents)) (none_at none)
        ∙ slice_get_past (directory_entries contents) (length (directory_entries contents)) (omega arith)

  -- the entry that has a name
  pub found_at : (name : List ℕ) (i n : ℕ) → IsFirstMatch (entry_has_name name) contents (length contents / 32) i → n ≡ descriptor_field (directory_entry contents i)
      → IsNameFoundAt contents name i n
  found_at name i n first names = record {
    there = position_first (entry_has_name name) i first;
    within = let below : i < length contents / 32 = first.below in omega arith;
    has = first.passes;
    descriptor_is = names;
    names = ap (option_map descriptor_field) (find_first (entry_has_name name) i first) ∙ ap Some (sym names);
  }

  -- where a new entry goes
  free_place : (free : Option ℕ)
      → MatchOption free (NonePasses (λ entry. not (is_used entry)) contents (length contents / 32)) (IsFirstMatch (λ entry. not (is_used entry)) contents (length contents / 32))
      → unwrap_or free (length contents / 32) ≡ entry_place contents
  free_place None none = sym (ap (λ o. unwrap_or o (length contents / 32)) (position_none (λ entry. not (is_used entry)) none))
  free_place (Some i) first = sym (ap (λ o. unwrap_or o (length contents / 32)) (position_first (λ entry. not (is_used entry)) i first))

  pub absent_in : (name : List ℕ) (free : Option ℕ) → NonePasses (entry_has_name name) contents (length contents / 32)
      → MatchOption free (NonePasses (λ entry. not (is_used entry)) contents (length contents / 32)) (IsFirstMatch (λ entry. not (is_used entry)) contents (length contents / 32))
      → IsAbsentName contents name (unwrap_or free (length contents / 32))
  absent_in name free none place = record {
    nowhere = position_none (entry_has_name name) none;
    names_none = ap (option_map descriptor_field) (find_none (entry_has_name name) none);
    free_is = free_place free place;
  }
