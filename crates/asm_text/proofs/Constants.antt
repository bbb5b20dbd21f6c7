-- A term that is a number.
use Rattle.std.proofs.Common.{◌≡◌, ℕ, ◌==◌, ◌&&◌, Bool, true, false, Option, Some, None, List, [], ◌∷◌, refl, ap, sym, ◌∙◌, arith, pos}
use Rattle.std.specs.Prelude.{option_map, option_and_then, if◌then◌else◌}
use Rattle.std.proofs.lemmas.Bool.{and_parts, eqb-true}
use Rattle.std.proofs.lemmas.Bool.Decides.{nat_tests}
use Rattle.text_values.specs.Number.{is_digit}
use Rattle.asm_model.specs.Numbers.{number}
use Rattle.asm_model.specs.Expressions.{constant, label, term, star, is_label, is_letter, constant_meaning}

letter-dollar : (c : ℕ) → is_letter c ≡ true → (c == 36) ≡ false
letter-dollar c is = grind (arith, nat_tests)

letter-digit : (c : ℕ) → is_letter c ≡ true → is_digit c ≡ false
letter-digit c is = grind (arith, nat_tests)

no-number : (c : ℕ) (text : List ℕ) → (c == 36) ≡ false → is_digit c ≡ false → number (c ∷ text) ≡ None
no-number c text dollar digit = simp (dollar, digit)

label-letter : (c : ℕ) (text : List ℕ) → is_label (c ∷ text) ≡ true → is_letter c ≡ true
label-letter c text is = (and_parts (is_letter c) _ (and_parts (is_letter c && _) _ (and_parts (is_letter c && _ && _) _ is).0).0).0

star-none : (text : List ℕ) → option_and_then constant_meaning (star text) ≡ None
star-none [] = refl
star-none (c ∷ text) = refl

constant-number : (n : Option ℕ) → option_and_then constant_meaning (option_map constant n) ≡ option_map pos n
constant-number None = refl
constant-number (Some n) = refl

by-label : (c : ℕ) (text : List ℕ) (b : Bool) → is_label (c ∷ text) ≡ b →
    option_and_then constant_meaning (if b then Some (label (c ∷ text)) else option_map constant (number (c ∷ text))) ≡ option_map pos (number (c ∷ text))
by-label c text true is =
    let letter = label-letter c text is in
    sym (ap (option_map pos) (no-number c text (letter-dollar c letter) (letter-digit c letter)))
by-label c text false is = constant-number (number (c ∷ text))

by-star : (c : ℕ) (text : List ℕ) (b : Bool) → (c == 42) ≡ b →
    option_and_then constant_meaning (if b then star text else (if is_label (c ∷ text) then Some (label (c ∷ text)) else option_map constant (number (c ∷ text)))) ≡ option_map pos (number (c ∷ text))
by-star c text true is =
    let same : c ≡ 42 = eqb-true c 42 is in
    let free : number (c ∷ text) ≡ None = rw same refl in
    star-none text ∙ sym (ap (option_map pos) free)
by-star c text false is = by-label c text (is_label (c ∷ text)) refl

-- the value of a term, where numbers alone have one
pub constant-term : (text : List ℕ) → option_and_then constant_meaning (term text) ≡ option_map pos (number text)
constant-term [] = refl
constant-term (c ∷ text) = by-star c text (c == 42) refl
