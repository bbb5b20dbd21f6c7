-- Numbers that are added to a list.
use Rattle.std.proofs.Common.{◌≡◌, ◌⊎◌, ℕ, true, List, [], ◌∷◌, ◌++◌, refl, sym, ap, ◌∙◌, inl, inr, ⊎_elim, append_assoc, arith}
use Rattle.std.proofs.lemmas.Bool.{cond-true, cond-false, cases_Bool}
use Rattle.std.proofs.lemmas.Bool.Decides.{nat_tests}
use Rattle.rbf_model.specs.Segments.{has}
use Rattle.rbf_model.proofs.Segments.{has_left, has_right, has_cases}
use Rattle.rbf_sector_rules.specs.Found.{added, Extends}

nothing_more : (xs : List ℕ) → xs ≡ xs ++ []
nothing_more [] = refl
nothing_more (x ∷ xs) = ap (λ r. x ∷ r) (nothing_more xs)

has_one : (n : ℕ) → has (n ∷ []) n ≡ true
has_one n = grind (arith, nat_tests)

only_one : (n m : ℕ) → has (n ∷ []) m ≡ true → m ≡ n
only_one n m h = grind (arith, nat_tests)

pub has_extended : (old new : List ℕ) (m : ℕ) → Extends old new → has old m ≡ true → has new m ≡ true
has_extended old new m grown h =
    ap (λ xs. has xs m) grown.is ∙ has_left old grown.more m h

pub extends_same : (xs : List ℕ) → Extends xs xs
extends_same xs = record { more = []; is = nothing_more xs }

pub extends_then : (a b c : List ℕ) → Extends a b → Extends b c → Extends a c
extends_then a b c first next = record {
  more = first.more ++ next.more;
  is = next.is ∙ ap (λ xs. xs ++ next.more) first.is ∙ append_assoc a first.more next.more;
}

-- a number that is added
module _ (old : List ℕ) (n : ℕ) where
  pub added_extends : Extends old (added old n)
  added_extends = ⊎_elim
      (λ there. record { more = []; is = cond-true (has old n) old (old ++ n ∷ []) there ∙ nothing_more old })
      (λ new. record { more = n ∷ []; is = cond-false (has old n) old (old ++ n ∷ []) new })
      (cases_Bool (has old n))

  pub added_has : has (added old n) n ≡ true
  added_has = ⊎_elim
      (λ there. ap (λ xs. has xs n) (cond-true (has old n) old (old ++ n ∷ []) there) ∙ there)
      (λ new. ap (λ xs. has xs n) (cond-false (has old n) old (old ++ n ∷ []) new) ∙ has_right old (n ∷ []) n (has_one n))
      (cases_Bool (has old n))

  pub added_only : (m : ℕ) → has (added old n) m ≡ true → (has old m ≡ true) ⊎ (m ≡ n)
  added_only m h = ⊎_elim
      (λ there. inl (sym (ap (λ xs. has xs m) (cond-true (has old n) old (old ++ n ∷ []) there)) ∙ h))
      (λ new. ⊎_elim (λ before. inl before) (λ last. inr (only_one n m last)) (has_cases old (n ∷ []) m (sym (ap (λ xs. has xs m) (cond-false (has old n) old (old ++ n ∷ []) new)) ∙ h)))
      (cases_Bool (has old n))
