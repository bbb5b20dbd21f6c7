-- The descriptors that break rule 1.
use Rattle.std.proofs.Common.{◌≡◌, ℕ, suc, Bool, true, false, List, [], ◌∷◌, ◌&&◌, length, get_or, Option, refl, sym, ap, ◌∙◌, subst, inl, inr, ⊎_elim, arith}
use Rattle.std.specs.List.{list_all}
use Rattle.std.specs.Prelude.{Contains}
use Rattle.std.proofs.lemmas.Bool.{both_ways, false≢true}
use Rattle.std.proofs.lemmas.List.Folds.{list_all_at}
use Rattle.rbf_model.specs.Disk.{disk_of}
use Rattle.rbf_model.specs.Fields.{segments_field}
use Rattle.rbf_model.specs.Geometry.{Geometry, is_within}
use Rattle.rbf_model.specs.Segments.{has}
use Rattle.rbf_model.specs.Faults.{Breaks}
use Rattle.rbf_model.specs.Search.{IsListOfReached, IsReachedOn, searchable_bytes}
use Rattle.rbf_model.specs.Faults.Breaks.{bad_number, bad_segment, bad_map, unmarked, used_twice, shared, no_room, no_root, bad_size, no_dots, bad_name, same_name, named_twice, named_root}
use Rattle.rbf_sector_rules.specs.Least.{IsLeast, Before, IsLeastBreach}
use Rattle.rbf_sector_rules.specs.Rules.{HasBadNumber, BreaksNumbers, BreaksNumbersAt}
use Rattle.rbf_sector_rules.proofs.Leasts.{least_along, least_in_list}

-- one that fails
failing : {A : Type 0} (p : A → Bool) (xs : List A) → list_all p xs ≡ false → (x : A) × Contains xs x × (p x ≡ false)
failing p [] fails = absurd (false≢true (sym fails))
failing {A} p (x ∷ xs) fails = go (p x) refl fails (λ h. failing p xs h)
  where
    go : (t : Bool) → p x ≡ t → (t && list_all p xs) ≡ false → (list_all p xs ≡ false → (y : A) × Contains xs y × (p y ≡ false)) → (y : A) × Contains (x ∷ xs) y × (p y ≡ false)
    go true passes h further =
        let rest = further h in
        (rest.0, (suc rest.1.0, omega (arith, rest.1.1), rest.1.2), rest.2)
    go false here h further = (x, (0, omega arith, refl), here)

module _ (g : Geometry) (disk : ℕ → List ℕ) where
  numbers_breach : (n : ℕ) → IsReachedOn (disk_of g disk) n → BreaksNumbers (disk_of g disk) n → Breaks (disk_of g disk) 1 n
  numbers_breach n reached (inl outside) =
      let found = failing (is_within g) (segments_field (disk n)) outside in
      bad_segment reached found.1 found.2
  numbers_breach n reached (inr bad) = bad_number reached bad.1 bad.2

  numbers_of : {rule lsn : ℕ} → Breaks (disk_of g disk) rule lsn → rule ≡ 1 → IsReachedOn (disk_of g disk) lsn × BreaksNumbers (disk_of g disk) lsn
  numbers_of (bad_number {i = i} reached entry bad) e = (reached, inr (i, entry, bad))
  numbers_of (bad_segment {n = n} {segment = s} reached there outside) e = (reached, inl (list_all_at (is_within g) (segments_field (disk n)) there.0 s there.1 (ap (is_within g) there.2 ∙ outside)))
  numbers_of (bad_map a) e = absurd (omega arith)
  numbers_of (unmarked a b c) e = absurd (omega arith)
  numbers_of (used_twice a b c d) e = absurd (omega arith)
  numbers_of (shared a b c d f h k) e = absurd (omega arith)
  numbers_of (no_room a b) e = absurd (omega arith)
  numbers_of (no_root a) e = absurd (omega arith)
  numbers_of (bad_size a b c) e = absurd (omega arith)
  numbers_of (no_dots a b c) e = absurd (omega arith)
  numbers_of (bad_name a b) e = absurd (omega arith)
  numbers_of (same_name a b) e = absurd (omega arith)
  numbers_of (named_twice a b c d) e = absurd (omega arith)
  numbers_of (named_root a) e = absurd (omega arith)

  -- the least of those that are found
  pub least_numbers : (found : List ℕ) (i : ℕ) (least : Option ℕ) → IsListOfReached (disk_of g disk) found → i ≡ length found
      → IsLeast (Before (λ k. BreaksNumbersAt (disk_of g disk) (get_or found k 0)) i) least
      → IsLeastBreach (disk_of g disk) 1 least
  least_numbers found i least are all is =
      least_along (λ s. (n : ℕ) × (has found n ≡ true) × BreaksNumbersAt (disk_of g disk) n s) (Breaks (disk_of g disk) 1)
      (λ s h. let P : ℕ → Type 0 = λ n. Breaks (disk_of g disk) 1 n in subst P (sym h.2.0) (numbers_breach h.0 ((are h.0).0 h.1) h.2.1))
      (λ s b. let f = numbers_of b refl in (s, (are s).1 f.0, (refl, f.1)))
      least (least_in_list (BreaksNumbersAt (disk_of g disk)) found i all least is)

  -- a descriptor that is read, whose segments and entries are in order
  pub none_broken : (n m : ℕ) (segs : List (ℕ × ℕ)) → m ≡ n → segs ≡ segments_field (disk m) → list_all (is_within g)
      segs ≡ true → (HasBadNumber g (searchable_bytes (disk_of g disk) m) → ⊥) → (s : ℕ)
      → BreaksNumbersAt (disk_of g disk) n s → ⊥
  none_broken n m segs same is within good s h =
      let P : ℕ → Type 0 = λ k. BreaksNumbers (disk_of g disk) k in
      ⊎_elim
      (λ outside. both_ways (list_all (is_within g) (segments_field (disk m))) outside (ap (list_all (is_within g)) (sym is) ∙ within))
      (λ bad. good bad)
      (subst P (sym same) h.1)
