-- The place of a new entry: a free one behind the first two, or the one behind the last.
use Rattle.std.proofs.Common.{◌≡◌, ℕ, zero, suc, ◌/◌, ◌%◌, ◌<◌, ◌≤◌, Bool, true, false, not, ◌==◌, lt-ltb, cond, eqb-true, leb-true, Option, Some, None, List, [], ◌∷◌, length, get_or, sym, ap, ◌∙◌, subst, ⊎_elim, arith}
use Rattle.std.specs.Prelude.{unwrap_or}
use Rattle.std.specs.List.{position_or_len}
use Rattle.std.proofs.lemmas.Bool.{and_parts, false_from_ne_true, le-ltb, not-true, both_ways, cases_lt}
use Rattle.std.proofs.lemmas.List.Sums.{passes_at_first}
use Rattle.std.proofs.lemmas.List.FromFn.{get_or-map-range_with_len, length-map-range_with_len}
use Rattle.rbf_model.specs.Fields.{directory_entry, is_used, entry_name_field}
use Rattle.rbf_model.specs.File.{DiskFile, is_directory}
use Rattle.rbf_model.specs.Geometry.{Geometry}
use Rattle.rbf_model.specs.Tree.{HasDots, self_first, parent_first}
use Rattle.rbf_model.specs.Volume.{IsTree, directories, listing}
use Rattle.rbf_model.specs.Walk.{directory_entries}
use Rattle.rbf_model.proofs.Entries.{listing_directory}
use Rattle.rbf_change.specs.Names.{entry_place}

not_zero : (x : ℕ) → not (suc x == 0) ≡ true
not_zero x = ap not (false_from_ne_true (suc x == 0) (λ h. let e : suc x ≡ 0 = eqb-true (suc x) 0 h in absurd (omega arith)))

-- an entry with a name is used
used_named : (entry name : List ℕ) → entry_name_field entry ≡ Some name → is_used entry ≡ true
used_named [] name is = absurd (cc is)
used_named (zero ∷ rest) name is = absurd (cc is)
used_named (suc x ∷ rest) name is = not_zero x

module _ (contents : List ℕ) where
  abbrev test : List ℕ → Bool
  test entry = not (is_used entry)

  abbrev entries : List (List ℕ)
  entries = directory_entries contents

  abbrev first : ℕ
  first = position_or_len test entries

  count : length entries ≡ length contents / 32
  count = length-map-range_with_len (directory_entry contents) 0 (length contents / 32)

  found : first < length entries → entry_place contents ≡ first
  found low = ap (λ t. unwrap_or (cond t (Some first) None) (length contents / 32)) (lt-ltb first (length entries) low)

  none_found : length entries ≤ first → entry_place contents ≡ length contents / 32
  none_found high = ap (λ t. unwrap_or (cond t (Some first) None) (length contents / 32)) (le-ltb first (length entries) high)

  pub place_most : entry_place contents ≤ length contents / 32
  place_most = ⊎_elim
      (λ low. let is = found low in let n = count in omega arith)
      (λ high. let is = none_found high in omega arith)
      (cases_lt first (length entries))

  pub place_free : (i : ℕ) → i ≡ entry_place contents → i < length contents / 32 → is_used (directory_entry contents i) ≡ false
  place_free i is below = ⊎_elim
      (λ low.
      let same : i ≡ first = is ∙ found low in
      let n = count in
      let there : get_or entries first [] ≡ directory_entry contents first = get_or-map-range_with_len (directory_entry contents) 0 (length contents / 32) first first [] (omega arith) (omega arith) in
      let passes : not (is_used (directory_entry contents first)) ≡ true = ap test (sym there) ∙ passes_at_first test entries [] low in
      ap (λ j. is_used (directory_entry contents j)) same ∙ not-true (is_used (directory_entry contents first)) passes)
      (λ high. let place = none_found high in absurd (omega arith))
      (cases_lt first (length entries))

module _ (g : Geometry) (files : ℕ → Option DiskFile) (tree : IsTree g files) (d : ℕ) (dir : DiskFile) (is : files d ≡ Some dir) (directory : is_directory dir ≡ true) where
  listed : directories files d ≡ dir.contents
  listed = ap listing is ∙ listing_directory dir directory

  two_used : HasDots g (directories files) d → (is_used (directory_entry (directories files d) 0) ≡ true) × (is_used (directory_entry (directories files d) 1) ≡ true)
  two_used (self_first one two parent) = (used_named (directory_entry (directories files d) 0) _ one.name_is, used_named (directory_entry (directories files d) 1) _ two.name_is)
  two_used (parent_first one two parent) = (used_named (directory_entry (directories files d) 0) _ one.name_is, used_named (directory_entry (directories files d) 1) _ two.name_is)

  used_here : (is_used (directory_entry dir.contents 0) ≡ true) × (is_used (directory_entry dir.contents 1) ≡ true)
  used_here = subst (λ c. (is_used (directory_entry c 0) ≡ true) × (is_used (directory_entry c 1) ≡ true)) listed (two_used (tree.dots d dir is directory))

  pub whole_entries : (64 ≤ length dir.contents) × (length dir.contents % 32 ≡ 0)
  whole_entries =
      let parts = and_parts _ _ (tree.sizes d dir is directory) in
      (leb-true 64 (length dir.contents) parts.0, eqb-true (length dir.contents % 32) 0 parts.1)

  pub behind_dots : (i : ℕ) → is_used (directory_entry dir.contents i) ≡ false → 2 ≤ i
  behind_dots zero free = absurd (both_ways (is_used (directory_entry dir.contents 0)) free used_here.0)
  behind_dots (suc zero) free = absurd (both_ways (is_used (directory_entry dir.contents 1)) free used_here.1)
  behind_dots (suc (suc i)) free = omega arith
