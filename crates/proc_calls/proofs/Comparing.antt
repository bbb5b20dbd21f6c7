-- Two names as they are compared from the front.
use Rattle.std.proofs.Common.{◌≡◌, ◌∙◌, ℕ, suc, ◌+◌, ◌-◌, ◌<◌, ◌≤◌, ◌==◌, nat_lt, Bool, true, false, cond, Option, Some, None, ap, sym, arith}
use Rattle.std.proofs.lemmas.Bool.{cond-true, cond-false}
use Rattle.std.proofs.lemmas.Bool.Decides.{nat_tests}
use Rattle.os9_base.specs.Cells.{Cells}
use Rattle.os9_base.specs.UserNames.{user_cell}
use Rattle.proc_model.specs.CmpNam.{agrees, same_with, same_names}

module _ (cells : Cells) (one other length place : ℕ) (below : place < length) where
  -- the names from this place on, and from the next one
  abbrev pub here : Option Bool
  here = same_names cells (one + place) (other + place) (length - place)

  abbrev pub next : Option Bool
  next = same_names cells (one + (place + 1)) (other + (place + 1)) (length - (place + 1))

  -- the names from this place on, by the pair here and the names from the next place on
  same_from : here ≡ same_with next (length - (place + 1)) (user_cell cells (one + place)) (user_cell cells (other + place))
  same_from =
      let left : length - place ≡ suc (length - (place + 1)) = omega arith in
      let first : (one + place) + 1 ≡ one + (place + 1) = omega arith in
      let second : (other + place) + 1 ≡ other + (place + 1) = omega arith in
      ap (λ (n : ℕ). same_names cells (one + place) (other + place) n) left
      ∙ (λ i. same_with (same_names cells (first i) (second i) (length - (place + 1))) (length - (place + 1)) (user_cell cells (one + place)) (user_cell cells (other + place)))

  -- the byte of the first name is not there
  pub first_unread : None ≡ user_cell cells (one + place) → here ≡ None
  first_unread none =
      same_from ∙ ap (λ (first : Option ℕ). same_with next (length - (place + 1)) first (user_cell cells (other + place))) (sym none)

  module _ (a : ℕ) (first : Some a ≡ user_cell cells (one + place)) where
    -- that of the second one is not there
    pub second_unread : None ≡ user_cell cells (other + place) → here ≡ None
    second_unread none =
        same_from ∙ (λ i. same_with next (length - (place + 1)) (sym first i) (sym none i))

    module _ (b : ℕ) (second : Some b ≡ user_cell cells (other + place)) where
      -- both are there
      pair : here ≡ cond (agrees a b) (cond (nat_lt b 128) next (Some (length - (place + 1) == 0))) (Some false)
      pair = same_from ∙ (λ i. same_with next (length - (place + 1)) (sym first i) (sym second i))

      pub pair_differs : agrees a b ≡ false → here ≡ Some false
      pair_differs differs = pair ∙ cond-false _ _ _ differs

      pub pair_ends : agrees a b ≡ true → 128 ≤ b → here ≡ Some (place + 1 == length)
      pair_ends same last =
          let is_last : nat_lt b 128 ≡ false = grind (arith, nat_tests) in
          let is : (length - (place + 1) == 0) ≡ (place + 1 == length) = grind (arith, nat_tests) in
          pair ∙ cond-true _ _ _ same ∙ cond-false _ _ _ is_last ∙ ap (λ (t : Bool). Some t) is

      pub pair_goes_on : agrees a b ≡ true → b < 128 → here ≡ next
      pair_goes_on same more =
          let is_more : nat_lt b 128 ≡ true = grind (arith, nat_tests) in
          pair ∙ cond-true _ _ _ same ∙ cond-true _ _ _ is_more
