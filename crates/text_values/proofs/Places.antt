-- Searches for the place of a byte.
use Rattle.std.proofs.Common.{◌≡◌, ℕ, suc, ◌≤◌, Bool, true, false, not, cond, ltb, Option, Some, None, unwrap_or, inl, inr, List, ◌∷◌, length, ap, ◌∙◌, arith}
use Rattle.std.specs.List.{position_or_len, prefix_len}
use Rattle.std.proofs.lemmas.Bool.{cases_lt, lt-ltb, le-ltb}
use Rattle.std.proofs.lemmas.List.{length-take}
use Rattle.std.proofs.lemmas.List.Folds.{length-prefix_len}

-- the place that a search answers, or the end where it finds none
pub unwrap_or-position : (n len : ℕ) (found : Option ℕ) (place : ℕ) → found ≡ cond (ltb n len) (Some n) None → n ≤ len → place ≡ unwrap_or found len → place ≡ n
unwrap_or-position n len found place is_found within is_place =
    elim (cases_lt n len) [
      | inl below ↦
          let at : found ≡ Some n = is_found ∙ ap (λ b. cond b (Some n) None) (lt-ltb n len below) in
          is_place ∙ ap (λ o. unwrap_or o len) at
      | inr past ↦
          let at : found ≡ None = is_found ∙ ap (λ b. cond b (Some n) None) (le-ltb n len past) in
          let same : len ≡ n = omega arith in
          is_place ∙ ap (λ o. unwrap_or o len) at ∙ same
    ]

pub position_or_len-first : {X : Type 0} (p : X → Bool) (x : X) (xs : List X) → p x ≡ true → position_or_len p (x ∷ xs) ≡ 0
position_or_len-first p x xs is = simp is

pub position_or_len-next : {X : Type 0} (p : X → Bool) (x : X) (xs : List X) → p x ≡ false → position_or_len p (x ∷ xs) ≡ suc (position_or_len p xs)
position_or_len-next p x xs is = simp is (omega arith)

pub position_or_len-within : {X : Type 0} (p : X → Bool) (xs : List X) → position_or_len p xs ≤ length xs
position_or_len-within p xs =
    omega (arith, length-prefix_len (λ x. not (p x)) xs, length-take (prefix_len (λ x. not (p x)) xs) xs)
