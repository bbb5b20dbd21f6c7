-- The value of an expression as a sum over its terms.
use Rattle.std.proofs.Common.{◌≡◌, Option, Some, None, List, [], ◌∷◌, refl, ap, sym, ◌∙◌, ℤ, Bool}
use Rattle.std.specs.Prelude.{option_map, option_and_then}
use Rattle.asm_model.specs.Expressions.{Signed, Term, value_after}
use Rattle.asm_text.specs.Terms.{joined}
use Rattle.asm_text.proofs.Folds.{fold_terms}

module _ (meaning : Term → Option ℤ) where
  abbrev pub add_step : ℤ → Bool → Term → Option ℤ
  add_step value minus t = option_map (joined value minus) (meaning t)

  and-map : (value : ℤ) (minus : Bool) (f : ℤ → Option ℤ) (n : Option ℤ) →
      option_and_then f (option_map (joined value minus) n) ≡ option_and_then (λ n. f (joined value minus n)) n
  and-map value minus f None = refl
  and-map value minus f (Some n) = refl

  and-same : (f g : ℤ → Option ℤ) → ((x : ℤ) → f x ≡ g x) → (o : Option ℤ) → option_and_then f o ≡ option_and_then g o
  and-same f g same None = refl
  and-same f g same (Some x) = same x

  pub fold-value : (value : ℤ) (ts : List Signed) → fold_terms add_step value ts ≡ value_after meaning value ts
  fold-value value [] = refl
  fold-value value (t ∷ ts) =
      and-map value t.minus (λ next. fold_terms add_step next ts) (meaning t.term)
      ∙ and-same _ _ (λ n. fold-value (joined value t.minus n) ts) (meaning t.term)

  pub fold-values : (value : ℤ) (ts : Option (List Signed)) → option_and_then (fold_terms add_step value) ts ≡ option_and_then (value_after meaning value) ts
  fold-values value None = refl
  fold-values value (Some ts) = fold-value value ts
