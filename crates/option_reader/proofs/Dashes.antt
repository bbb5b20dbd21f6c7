-- Where `-` stands for an option's value, the words are refused.
use Rattle.std.proofs.Common.{◌≡◌, ◌∙◌, ◌&&◌, ℕ, Bool, true, false, not, cond, List, [], ◌∷◌, Option, Some, None, bytes_eq, refl, sym, ap, true≢false}
use Rattle.std.specs.List.{before_first, list_any}
use Rattle.option_reader.specs.Given.{Given, given, is_equals, is_given, nothing_given, with_arguments, with_option, words_give}
use Rattle.std.specs.List.{after_first}
use Rattle.option_reader.specs.Dash.{has_dash_value}
use Rattle.option_reader.proofs.Forms.{by_form}
use Rattle.option_reader.proofs.Walks.{dash_apart}

module _ (names : List (List ℕ)) where
  abbrev Between : List (List ℕ) → Type 0
  Between words = (so_far : Given) → has_dash_value false words ≡ true → given names None words so_far ≡ None

  abbrev Waits : List (List ℕ) → Type 0
  Waits words = (name : List ℕ) (so_far : Given) → has_dash_value true words ≡ true → given names (Some name) words so_far ≡ None

  long-step : (x : ℕ) (xs : List ℕ) (words : List (List ℕ)) → Between words → Waits words → Between ((45 ∷ 45 ∷ x ∷ xs) ∷ words)
  long-step x xs words between waits so_far dash =
      by (list_any (bytes_eq (before_first is_equals (x ∷ xs))) names && not
      (is_given so_far (before_first is_equals (x ∷ xs)))) (list_any is_equals (x ∷ xs))
      (bytes_eq (after_first is_equals (45 ∷ 45 ∷ x ∷ xs)) []) refl
    where
      answer : (new equals empty : Bool) → Option Given
      answer new equals empty =
          cond new (cond equals (cond empty None
          (given names None words (with_option so_far (before_first is_equals (x ∷ xs))
          (after_first is_equals (45 ∷ 45 ∷ x ∷ xs))))) (given names (Some (before_first is_equals (x ∷ xs)))
          words so_far)) None

      by : (new equals empty : Bool) → list_any is_equals (x ∷ xs) ≡ equals → answer new equals empty ≡ None
      by false equals empty e = refl
      by true true true e = refl
      by true true false e = between (with_option so_far (before_first is_equals (x ∷ xs)) (after_first is_equals (45 ∷ 45 ∷ x ∷ xs))) (ap (λ b. has_dash_value (not b) words) (sym e) ∙ dash)
      by true false empty e = waits (before_first is_equals (x ∷ xs)) so_far (ap (λ b. has_dash_value (not b) words) (sym e) ∙ dash)

  between-step : (word : List ℕ) (words : List (List ℕ)) → Between words → Waits words → Between (word ∷ words)
  between-step word words between waits = by_form (λ word. Between (word ∷ words))
      (λ so_far dash. between (with_arguments so_far ([] ∷ [])) dash)
      (λ so_far dash. between (with_arguments so_far ((45 ∷ []) ∷ [])) dash)
      (λ so_far dash. absurd (true≢false (sym dash)))
      (λ x xs. long-step x xs words between waits)
      (λ x xs other so_far dash. simp (other, dash_apart x other) refl)
      (λ b bs other so_far dash.
      let joins : given names None ((b ∷ bs) ∷ words) so_far ≡ given names None words (with_arguments so_far ((b ∷ bs) ∷ [])) = simp other refl in
      let past : has_dash_value false ((b ∷ bs) ∷ words) ≡ has_dash_value false words = simp (other, dash_apart b other) refl in
      joins ∙ between (with_arguments so_far ((b ∷ bs) ∷ [])) (sym past ∙ dash))
      word

  waits-step : (word : List ℕ) (words : List (List ℕ)) → Between words → Waits (word ∷ words)
  waits-step word words between = by_form (λ word. Waits (word ∷ words))
      (λ name so_far dash. refl)
      (λ name so_far dash. refl)
      (λ name so_far dash. refl)
      (λ x xs name so_far dash. refl)
      (λ x xs other name so_far dash. refl)
      (λ b bs other name so_far dash.
      let takes : given names (Some name) ((b ∷ bs) ∷ words) so_far ≡ given names None words (with_option so_far name (b ∷ bs)) = simp other refl in
      let past : has_dash_value true ((b ∷ bs) ∷ words) ≡ has_dash_value false words = simp (other, dash_apart b other) refl in
      takes ∙ between (with_option so_far name (b ∷ bs)) (sym past ∙ dash))
      word

  both : (words : List (List ℕ)) → Between words × Waits words
  both [] = (λ so_far dash. absurd (true≢false (sym dash)), λ name so_far dash. absurd (true≢false (sym dash)))
  both (word ∷ words) = let rest = both words in (between-step word words rest.0 rest.1, waits-step word words rest.0)

  pub dash-refused : (words : List (List ℕ)) → has_dash_value false words ≡ true → words_give names words ≡ None
  dash-refused words dash = (both words).0 nothing_given dash
