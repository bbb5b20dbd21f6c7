-- A word's four digits are read as the word.
use Rattle.std.proofs.Common.{◌≡◌, ℕ, ◌+◌, ◌*◌, ◌/◌, ◌%◌, ◌<◌, false, Some, [], ◌∷◌, refl, ap, ◌∙◌, arith}
use Rattle.std.specs.List.{list_any}
use Rattle.text_values.specs.Number.{hex_digit}
use Rattle.asm_model.specs.Characters.{is_comma, is_sign}
use Rattle.asm_model.specs.Numbers.{hex_character}
use Rattle.asm_model.specs.Print.{word_number}
use Rattle.asm_model.specs.Expressions.{constant, terms, signed}
use Rattle.asm_model.proofs.Finite.{on_below}
use Rattle.asm_model.proofs.Spaces.{is_blank}

-- what is known of the character of a digit
pub record IsDigit (c digit : ℕ) : Type 0 where
  pub shown : is_blank c ≡ false
  pub comma : is_comma c ≡ false
  pub sign : is_sign c ≡ false
  pub reads : hex_digit c ≡ Some digit

pub digit : (d : ℕ) → d < 16 → IsDigit (hex_character d) d
digit d h = record {
  shown = on_below 16 (λ d. is_blank (hex_character d)) (λ d. false) refl d h;
  comma = on_below 16 (λ d. is_comma (hex_character d)) (λ d. false) refl d h;
  sign = on_below 16 (λ d. is_sign (hex_character d)) (λ d. false) refl d h;
  reads = on_below 16 (λ d. hex_digit (hex_character d)) (λ d. Some d) refl d h;
}

module _ (a b c d : ℕ) (k l m n : ℕ) (first : IsDigit a k) (second : IsDigit b l) (third : IsDigit c m) (fourth : IsDigit d n) where
  text_terms : terms (36 ∷ a ∷ b ∷ c ∷ d ∷ []) ≡ Some (signed 43 (constant (16 * (16 * (16 * (16 * 0 + k) + l) + m) + n)) ∷ [])
  text_terms = simp (first.sign, second.sign, third.sign, fourth.sign, first.reads, second.reads, third.reads, fourth.reads)

  text_comma : list_any is_comma (36 ∷ a ∷ b ∷ c ∷ d ∷ []) ≡ false
  text_comma = simp (first.comma, second.comma, third.comma, fourth.comma)

  text_shown : list_any is_blank (36 ∷ a ∷ b ∷ c ∷ d ∷ []) ≡ false
  text_shown = simp (first.shown, second.shown, third.shown, fourth.shown)

-- the digits of a word
abbrev d1 : ℕ → ℕ
d1 w = w / 256 / 16

abbrev d2 : ℕ → ℕ
d2 w = w / 256 % 16

abbrev d3 : ℕ → ℕ
d3 w = w % 256 / 16

abbrev d4 : ℕ → ℕ
d4 w = w % 256 % 16

pub word_terms : (w : ℕ) → w < 65536 → terms (word_number w) ≡ Some (signed 43 (constant w) ∷ [])
word_terms w h =
    let whole : 16 * (16 * (16 * (16 * 0 + d1 w) + d2 w) + d3 w) + d4 w ≡ w = omega arith in
    text_terms _ _ _ _ (d1 w) (d2 w) (d3 w) (d4 w) (digit (d1 w) (omega arith)) (digit (d2 w) (omega arith)) (digit (d3 w) (omega arith)) (digit (d4 w) (omega arith))
    ∙ ap (λ n. Some (signed 43 (constant n) ∷ [])) whole

pub word_comma : (w : ℕ) → w < 65536 → list_any is_comma (word_number w) ≡ false
word_comma w h =
    text_comma _ _ _ _ (d1 w) (d2 w) (d3 w) (d4 w) (digit (d1 w) (omega arith)) (digit (d2 w) (omega arith)) (digit (d3 w) (omega arith)) (digit (d4 w) (omega arith))

pub word_shown : (w : ℕ) → w < 65536 → list_any is_blank (word_number w) ≡ false
word_shown w h =
    text_shown _ _ _ _ (d1 w) (d2 w) (d3 w) (d4 w) (digit (d1 w) (omega arith)) (digit (d2 w) (omega arith)) (digit (d3 w) (omega arith)) (digit (d4 w) (omega arith))
