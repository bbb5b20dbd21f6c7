-- A test of the terms of an expression.
use Rattle.std.proofs.Common.{◌≡◌, ℕ, ◌&&◌, Bool, true, false, Option, Some, None, List, [], ◌∷◌, ◌++◌, refl, ap, sym, ◌∙◌}
use Rattle.std.specs.Prelude.{option_map, option_and_then}
use Rattle.std.specs.List.{list_all}
use Rattle.std.specs.Prelude.{if◌then◌else◌}
use Rattle.asm_model.specs.Characters.{is_sign, is_minus}
use Rattle.asm_model.specs.Expressions.{Signed, Term, term}
use Rattle.asm_text.specs.Terms.{tested}
use Rattle.asm_text.proofs.Folds.{fold_terms, fold_from, with_term}

module _ (passes : Term → Bool) where
  abbrev pub test_step : Bool → Bool → Term → Option Bool
  test_step so_far minus t = Some (so_far && passes t)

  tested-term : (so_far minus : Bool) (t : Option Term) → option_map (λ t. so_far && passes t) t ≡ option_and_then (test_step so_far minus) t
  tested-term so_far minus None = refl
  tested-term so_far minus (Some t) = refl

  pub tested-part : (so_far : Bool) (sign : ℕ) (part : List ℕ) → tested passes so_far part ≡ with_term test_step so_far sign part
  tested-part so_far sign part = tested-term so_far (is_minus sign) (term part)

  -- the sign before a term does not matter
  by-sign : (so_far : Bool) (s t : ℕ) (part : List ℕ) (c : ℕ) (text : List ℕ) (b : Bool) → is_sign c ≡ b →
      ((p : List ℕ) → fold_from test_step so_far s p text ≡ fold_from test_step so_far t p text) →
      fold_from test_step so_far s part (c ∷ text) ≡ fold_from test_step so_far t part (c ∷ text)
  by-sign so_far s t part c text true is others = rw is refl
  by-sign so_far s t part c text false is others = rw is (others (part ++ c ∷ []))

  pub any-sign : (so_far : Bool) (s t : ℕ) (part text : List ℕ) → fold_from test_step so_far s part text ≡ fold_from test_step so_far t part text
  any-sign so_far s t part [] = refl
  any-sign so_far s t part (c ∷ text) = by-sign so_far s t part c text (is_sign c) refl (λ p. any-sign so_far s t p text)

  and_again : (a b c : Bool) → ((a && b) && c) ≡ (a && (b && c))
  and_again true b c = refl
  and_again false b c = refl

  fold-test : (so_far : Bool) (ts : List Signed) → fold_terms test_step so_far ts ≡ Some (so_far && list_all (λ t. passes t.term) ts)
  fold-test true [] = refl
  fold-test false [] = refl
  fold-test so_far (t ∷ ts) = fold-test (so_far && passes t.term) ts ∙ ap (λ b. Some b) (and_again so_far (passes t.term) (list_all (λ t. passes t.term) ts))

  pub fold-tests : (ts : Option (List Signed)) → option_and_then (fold_terms test_step true) ts ≡ option_map (list_all (λ t. passes t.term)) ts
  fold-tests None = refl
  fold-tests (Some ts) = fold-test true ts
