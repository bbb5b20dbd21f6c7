-- Names that agree.
use Rattle.std.proofs.Common.{◌≡◌, ◌↔◌, ℕ, Bool, true, false, not, List, map, Some, take, get_or, refl, ap, sym, ◌∙◌, ◌&&◌, ◌==◌, arith}
use Rattle.std.specs.Prelude.{IsTrue, bytes_eq}
use Rattle.std.proofs.lemmas.Bool.{false_from_ne_true, false≢true}
use Rattle.std.proofs.lemmas.Bool.Decides.{nat_tests}
use Rattle.std.proofs.lemmas.Slice.Eq.{bytes_eq-Decides}
use Rattle.os9_base.specs.Name.{lower, SameName, stored_name}
use Rattle.rbf_model.specs.Walk.{same_names, entry_has_name}

agree_is : (name other : List ℕ) (b : Bool) → (IsTrue b ↔ SameName name other) → b ≡ bytes_eq (map lower name) (map lower other)
agree_is name other true test = sym ((bytes_eq-Decides (map lower name) (map lower other)).1 (test.0 refl))
agree_is name other false test =
    sym (false_from_ne_true (bytes_eq (map lower name) (map lower other)) (λ same. false≢true (test.1 ((bytes_eq-Decides (map lower name) (map lower other)).0 same))))

zero_is : (x : ℕ) → (x == 0) ≡ true → x ≡ 0
zero_is x h = grind (arith, nat_tests)

nonzero : (x : ℕ) → (x ≡ 0 → ⊥) → (x == 0) ≡ false
nonzero x not = false_from_ne_true (x == 0) (λ h. not (zero_is x h))

-- an entry that is used has the name that it stores
pub has_name_is : (name entry other : List ℕ) (b : Bool) → (get_or entry 0 0 ≡ 0 → ⊥) → Some other ≡ stored_name (take 29 entry) → (IsTrue b ↔ SameName name other)
    → b ≡ entry_has_name name entry
has_name_is name entry other b used stored agrees =
    agree_is name other b agrees ∙ ap (same_names name) stored ∙ ap (λ u. not u && same_names name (stored_name (take 29 entry))) (sym (nonzero (get_or entry 0 0) used))
