-- The bytes of expressions, and that numbers have no others.
use Rattle.std.proofs.Common.{◌≡◌, ℕ, ◌+◌, ◌-◌, ◌*◌, ◌==◌, ◌&&◌, ◌||◌, Bool, true, false, Option, Some, None, List, [], ◌∷◌, length, refl, ap, sym, ◌∙◌, arith}
use Rattle.std.specs.Prelude.{nat_le, option_and_then, if◌then◌else◌}
use Rattle.std.specs.List.{list_all, list_any}
use Rattle.std.proofs.lemmas.Bool.{eqb-true}
use Rattle.std.proofs.lemmas.Bool.Decides.{nat_tests}
use Rattle.text_values.specs.Number.{number_of, number_after, within, hex_digit, is_digit}
use Rattle.asm_model.specs.Characters.{is_sign, is_dollar, is_star}
use Rattle.asm_model.specs.Numbers.{number, hexadecimal, hex_after, greatest_number}
use Rattle.asm_model.specs.Expressions.{is_label_character}

-- a letter, a digit, `_`, `$`, `*` or a sign
abbrev pub is_expression_byte : ℕ → Bool
is_expression_byte c = is_label_character c || (is_dollar c || (is_star c || is_sign c))

-- ---- numbers

both : (a b : Bool) → a ≡ true → b ≡ true → (a && b) ≡ true
both a b first second = simp (first, second)

digit-byte : (c : ℕ) → is_digit c ≡ true → is_expression_byte c ≡ true
digit-byte c is = grind (arith, nat_tests)

hex-byte : (c d : ℕ) → hex_digit c ≡ Some d → is_expression_byte c ≡ true
hex-byte c d is = grind (arith, nat_tests)

digits-bytes : (value : ℕ) (text : List ℕ) (n : ℕ) → number_after value text ≡ Some n → list_all is_expression_byte text ≡ true
digits-bytes value [] n is = refl
digits-bytes value (c ∷ text) n is = by-digit (is_digit c) refl is (λ others. digits-bytes (10 * value + (c - 48)) text n others)
  where
    by-digit : (b : Bool) → is_digit c ≡ b → (if b then number_after (10 * value + (c - 48)) text else None) ≡ Some n →
        (number_after (10 * value + (c - 48)) text ≡ Some n → list_all is_expression_byte text ≡ true) → list_all is_expression_byte (c ∷ text) ≡ true
    by-digit true first whole more = both (is_expression_byte c) (list_all is_expression_byte text) (digit-byte c first) (more whole)
    by-digit false first whole more = absurd (cc)

hex-bytes : (value : ℕ) (text : List ℕ) (n : ℕ) → hex_after value text ≡ Some n → list_all is_expression_byte text ≡ true
hex-bytes value [] n is = refl
hex-bytes value (c ∷ text) n is = by-digit (hex_digit c) refl is (λ d others. hex-bytes (16 * value + d) text n others)
  where
    by-digit : (o : Option ℕ) → hex_digit c ≡ o → option_and_then (λ digit. hex_after (16 * value + digit) text) o ≡ Some n →
        ((d : ℕ) → hex_after (16 * value + d) text ≡ Some n → list_all is_expression_byte text ≡ true) → list_all is_expression_byte (c ∷ text) ≡ true
    by-digit None first whole more = absurd (cc)
    by-digit (Some d) first whole more = both (is_expression_byte c) (list_all is_expression_byte text) (hex-byte c d first) (more d whole)

hexadecimal-bytes : (text : List ℕ) (n : ℕ) → hexadecimal text ≡ Some n → list_all is_expression_byte text ≡ true
hexadecimal-bytes [] n is = absurd (cc)
hexadecimal-bytes (c ∷ text) n is = by-count (nat_le (length text) 3) is
  where
    by-count : (b : Bool) → (if b then hex_after 0 (c ∷ text) else None) ≡ Some n → list_all is_expression_byte (c ∷ text) ≡ true
    by-count true whole = hex-bytes 0 (c ∷ text) n whole
    by-count false whole = absurd (cc)

decimal-bytes : (text : List ℕ) (n : ℕ) (o : Option ℕ) → number_after 0 text ≡ o → within 0 greatest_number o ≡ Some n → list_all is_expression_byte text ≡ true
decimal-bytes text n None is whole = absurd (cc)
decimal-bytes text n (Some m) is whole = digits-bytes 0 text m is

dollar-byte : (c : ℕ) → is_dollar c ≡ true → is_expression_byte c ≡ true
dollar-byte c is = grind (arith, nat_tests)

pub label-byte : (c : ℕ) → is_label_character c ≡ true → is_expression_byte c ≡ true
label-byte c is = ap (λ b. b || (is_dollar c || (is_star c || is_sign c))) is

number-bytes : (text : List ℕ) (n : ℕ) → number text ≡ Some n → list_all is_expression_byte text ≡ true
number-bytes [] n is = absurd (cc)
number-bytes (c ∷ text) n is = by-dollar (is_dollar c) refl is
  where
    by-dollar : (b : Bool) → is_dollar c ≡ b → (if b then hexadecimal text else within 0 greatest_number (number_of (c ∷ text))) ≡ Some n → list_all is_expression_byte (c ∷ text) ≡ true
    by-dollar true first whole = both (is_expression_byte c) (list_all is_expression_byte text) (dollar-byte c first) (hexadecimal-bytes text n whole)
    by-dollar false first whole = decimal-bytes (c ∷ text) n (number_after 0 (c ∷ text)) refl whole

-- ---- bytes apart

-- bytes that pass one test pass none that excludes it
pub none-of : (p q : ℕ → Bool) → ((c : ℕ) → p c ≡ true → q c ≡ false) → (text : List ℕ) → list_all p text ≡ true → list_any q text ≡ false
none-of p q apart [] all = refl
none-of p q apart (c ∷ text) all = by-first (p c) refl all (λ rest. none-of p q apart text rest)
  where
    by-first : (b : Bool) → p c ≡ b → (b && list_all p text) ≡ true → (list_all p text ≡ true → list_any q text ≡ false) → list_any q (c ∷ text) ≡ false
    by-first true first rest more = let here : q c ≡ false = apart c first in let others : list_any q text ≡ false = more rest in simp (here, others)
    by-first false first rest more = absurd (cc)

-- no byte of an expression is another byte
pub apart : (k c : ℕ) → is_expression_byte k ≡ false → is_expression_byte c ≡ true → (c == k) ≡ false
apart k c none all = by-same (c == k) refl
  where
    by-same : (b : Bool) → (c == k) ≡ b → (c == k) ≡ false
    by-same true is = let other : true ≡ false = sym all ∙ ap is_expression_byte (eqb-true c k is) ∙ none in absurd (cc)
    by-same false is = is

pub number-without : (k : ℕ) → is_expression_byte k ≡ false → (text : List ℕ) (n : ℕ) → number text ≡ Some n → list_any (λ c. c == k) text ≡ false
number-without k none text n is = none-of is_expression_byte (λ c. c == k) (λ c all. apart k c none all) text (number-bytes text n is)
