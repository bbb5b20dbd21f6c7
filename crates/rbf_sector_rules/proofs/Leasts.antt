-- The least of several properties, and of one over a list.
use Rattle.std.proofs.Common.{◌≡◌, ◌⊎◌, ℕ, ◌+◌, true, List, length, get_or, min, Option, Some, None, sym, ◌∙◌, subst, inl, inr, ⊎_elim, arith}
use Rattle.std.proofs.lemmas.Bool.{cases_lt}
use Rattle.std.proofs.lemmas.List.{get_or_default}
use Rattle.rbf_model.specs.Segments.{has}
use Rattle.rbf_model.proofs.Bytes.{has_place, place_of}
use Rattle.rbf_sector_rules.specs.Least.{IsLeast, lesser_of, Before}

module _ (B C : ℕ → Type 0) where
  -- properties of the same numbers
  pub least_along : ((s : ℕ) → B s → C s) → ((s : ℕ) → C s → B s) → (least : Option ℕ) → IsLeast B least → IsLeast C least
  least_along there back None none = λ s h. none s (back s h)
  least_along there back (Some low) is = (there low is.0, λ s h. is.1 s (back s h))

  at_lesser : (one other : Option ℕ) → IsLeast B one → IsLeast C other → IsLeast (λ s. B s ⊎ C s) (lesser_of one other)
  at_lesser None None first second = λ s h. ⊎_elim (λ b. first s b) (λ c. second s c) h
  at_lesser None (Some b) first second = (inr second.0, λ s h. ⊎_elim (λ x. absurd (first s x)) (λ y. second.1 s y) h)
  at_lesser (Some a) None first second = (inl first.0, λ s h. ⊎_elim (λ x. first.1 s x) (λ y. absurd (second s y)) h)
  at_lesser (Some a) (Some b) first second = (
    ⊎_elim
        (λ less. let e : a ≡ min a b = omega arith in inl (subst B e first.0))
        (λ more. let e : b ≡ min a b = omega arith in inr (subst C e second.0))
        (cases_lt a b),
    λ s h. ⊎_elim (λ x. omega (arith, first.1 s x)) (λ y. omega (arith, second.1 s y)) h,
  )

  -- either of two
  pub least_either : (one other both : Option ℕ) → IsLeast B one → IsLeast C other → both ≡ lesser_of one other → IsLeast (λ s. B s ⊎ C s) both
  least_either one other both first second is =
      let P : Option ℕ → Type 0 = λ o. IsLeast (λ s. B s ⊎ C s) o in
      subst P (sym is) (at_lesser one other first second)

module _ (B : ℕ → ℕ → Type 0) where
  -- no place, and one place more
  pub least_before : IsLeast (Before B 0) None
  least_before = λ s h. let low = h.1 in absurd (omega arith)

  pub least_next : (i : ℕ) (least here next : Option ℕ) → IsLeast (Before B i) least → IsLeast (B i) here → next ≡ lesser_of least here → IsLeast (Before B (i + 1)) next
  least_next i least here next before at is =
      least_along (λ s. Before B i s ⊎ B i s) (Before B (i + 1))
      (λ s h. ⊎_elim (λ b. (b.0, omega (arith, b.1), b.2)) (λ b. (i, omega arith, b)) h)
      (λ s h. ⊎_elim
      (λ low. inl (h.0, low, h.2))
      (λ high. let same : h.0 ≡ i = omega (arith, h.1) in let P : ℕ → Type 0 = λ k. B k s in inr (subst P same h.2))
      (cases_lt h.0 i))
      next (least_either (Before B i) (B i) least here next before at is)

-- for the numbers of a list
module _ (C : ℕ → ℕ → Type 0) (xs : List ℕ) (i : ℕ) (all : i ≡ length xs) where
  in_list : (s : ℕ) → Before (λ k. C (get_or xs k 0)) i s → (n : ℕ) × (has xs n ≡ true) × C n s
  in_list s h = (get_or xs h.0 0, has_place xs h.0 (omega (arith, h.1)), h.2)

  at_place : (s : ℕ) → (n : ℕ) × (has xs n ≡ true) × C n s → Before (λ k. C (get_or xs k 0)) i s
  at_place s h =
      let place = place_of xs h.0 h.1 in
      let at : h.0 ≡ get_or xs place.0 0 = sym (get_or_default xs place.0 0 h.0 place.1 ∙ place.2) in
      let P : ℕ → Type 0 = λ n. C n s in
      (place.0, omega (arith, place.1), subst P at h.2)

  pub least_in_list : (least : Option ℕ) → IsLeast (Before (λ k. C (get_or xs k 0)) i) least → IsLeast (λ s. (n : ℕ) × (has xs n ≡ true) × C n s) least
  least_in_list least is = least_along (Before (λ k. C (get_or xs k 0)) i) (λ s. (n : ℕ) × (has xs n ≡ true) × C n s) in_list at_place least is
