-- Expressions of one number.
use Rattle.std.proofs.Common.{◌≡◌, ℕ, ◌==◌, ◌+◌, ◌-◌, ◌*◌, ◌||◌, Bool, true, false, Option, Some, None, List, [], ◌∷◌, filter, length, take, drop, get_or, ◌≤◌, eq-eqb, refl, ap, sym, ◌∙◌, arith, ℤ, pos}
use Rattle.std.specs.Prelude.{nat_le, option_map, option_and_then, if◌then◌else◌}
use Rattle.std.specs.List.{slice_split, onto_first, list_any}
use Rattle.std.proofs.lemmas.Bool.Decides.{nat_tests}
use Rattle.std.proofs.lemmas.List.{take_rest}
use Rattle.text_values.specs.Number.{number_of, number_after, hex_digit, within, is_digit}
use Rattle.asm_model.specs.Characters.{is_sign, is_minus, is_dollar}
use Rattle.asm_model.specs.Numbers.{number, hexadecimal, hex_after, greatest_number}
use Rattle.asm_model.specs.Expressions.{Signed, Term, term, terms, signed, terms_with, terms_after, lone_value, constant_meaning}
use Rattle.asm_model.proofs.Spaces.{or_left, or_right}
use Rattle.asm_text.specs.Terms.{joined}
use Rattle.asm_text.proofs.Constants.{constant-term}

-- ---- a number has no sign

sign-hex : (c : ℕ) → is_sign c ≡ true → hex_digit c ≡ None
sign-hex c is = grind (arith, nat_tests)

sign-digit : (c : ℕ) → is_sign c ≡ true → is_digit c ≡ false
sign-digit c is = grind (arith, nat_tests)

sign-dollar : (c : ℕ) → is_sign c ≡ true → is_dollar c ≡ false
sign-dollar c is = grind (arith, nat_tests)

none-and : {A B : Type 0} (o : Option A) (f : A → Option B) → ((x : A) → f x ≡ None) → option_and_then f o ≡ None
none-and None f none = refl
none-and (Some x) f none = none x

hex-none : (value : ℕ) (text : List ℕ) → list_any is_sign text ≡ true → hex_after value text ≡ None
hex-none value [] some = absurd (cc)
hex-none value (c ∷ text) some = by-first (is_sign c) refl (λ v others. hex-none v text others)
  where
    by-first : (b : Bool) → is_sign c ≡ b → ((v : ℕ) → list_any is_sign text ≡ true → hex_after v text ≡ None) → hex_after value (c ∷ text) ≡ None
    by-first true is more = ap (option_and_then (λ digit. hex_after (16 * value + digit) text)) (sign-hex c is)
    by-first false is more =
        let others : list_any is_sign text ≡ true = simp is at some in
        none-and (hex_digit c) (λ digit. hex_after (16 * value + digit) text) (λ digit. more (16 * value + digit) others)

digits-none : (value : ℕ) (text : List ℕ) → list_any is_sign text ≡ true → number_after value text ≡ None
digits-none value [] some = absurd (cc)
digits-none value (c ∷ text) some = by-first (is_sign c) refl (λ v others. digits-none v text others)
  where
    by-digit : (b : Bool) → is_digit c ≡ b → number_after (10 * value + (c - 48)) text ≡ None → number_after value (c ∷ text) ≡ None
    by-digit true is none = ap (λ (b : Bool). if b then number_after (10 * value + (c - 48)) text else None) is ∙ none
    by-digit false is none = ap (λ (b : Bool). if b then number_after (10 * value + (c - 48)) text else None) is

    by-first : (b : Bool) → is_sign c ≡ b → ((v : ℕ) → list_any is_sign text ≡ true → number_after v text ≡ None) → number_after value (c ∷ text) ≡ None
    by-first true is more = ap (λ (b : Bool). if b then number_after (10 * value + (c - 48)) text else None) (sign-digit c is)
    by-first false is more =
        let others : list_any is_sign text ≡ true = simp is at some in
        by-digit (is_digit c) refl (more (10 * value + (c - 48)) others)

hexadecimal-none : (text : List ℕ) → list_any is_sign text ≡ true → hexadecimal text ≡ None
hexadecimal-none [] some = absurd (cc)
hexadecimal-none (c ∷ text) some = by-length (nat_le (length text) 3)
  where
    by-length : (b : Bool) → (if b then hex_after 0 (c ∷ text) else None) ≡ None
    by-length true = hex-none 0 (c ∷ text) some
    by-length false = refl

pub number-none : (text : List ℕ) → list_any is_sign text ≡ true → number text ≡ None
number-none [] some = absurd (cc)
number-none (c ∷ text) some = by-dollar (is_dollar c) refl
  where
    by-dollar : (b : Bool) → is_dollar c ≡ b → number (c ∷ text) ≡ None
    by-dollar true is =
        let plain : is_sign c ≡ false = grind (arith, nat_tests) in
        let others : list_any is_sign text ≡ true = simp plain at some in
        ap (λ (b : Bool). if b then hexadecimal text else within 0 greatest_number (number_of (c ∷ text))) is ∙ hexadecimal-none text others
    by-dollar false is =
        ap (λ (b : Bool). if b then hexadecimal text else within 0 greatest_number (number_of (c ∷ text))) is
        ∙ ap (within 0 greatest_number) (digits-none 0 (c ∷ text) some)

-- ---- an expression of one term

none-split : (text : List ℕ) → list_any is_sign text ≡ false → slice_split is_sign text ≡ text ∷ []
none-split [] none = refl
none-split (c ∷ text) none =
    let first : is_sign c ≡ false = or_left (is_sign c) (list_any is_sign text) none in
    let others = none-split text (or_right (is_sign c) (list_any is_sign text) none) in
    simp (first, others)

none-signs : (text : List ℕ) → list_any is_sign text ≡ false → filter is_sign text ≡ []
none-signs [] none = refl
none-signs (c ∷ text) none =
    let first : is_sign c ≡ false = or_left (is_sign c) (list_any is_sign text) none in
    let others = none-signs text (or_right (is_sign c) (list_any is_sign text) none) in
    simp (first, others)

one-value : (sign : ℕ) (t : Option Term) →
    option_and_then lone_value (option_and_then (λ t. option_map (λ ts. signed sign t ∷ ts) (Some [])) t) ≡ option_map (joined (pos 0) (is_minus sign)) (option_and_then constant_meaning t)
one-value sign None = refl
one-value sign (Some t) = by-value (constant_meaning t) refl
  where
    by-value : (n : Option ℤ) → constant_meaning t ≡ n → lone_value (signed sign t ∷ []) ≡ option_map (joined (pos 0) (is_minus sign)) n
    by-value None is = rw is refl
    by-value (Some n) is = rw is refl

-- more than one term has no value of one number
two-none : (sign s : ℕ) (signs : List ℕ) (part : List ℕ) (parts : List (List ℕ)) → option_and_then lone_value (terms_with (sign ∷ s ∷ signs) (part ∷ parts)) ≡ None
two-none sign s signs part [] = by-term (term part)
  where
    by-term : (t : Option Term) → option_and_then lone_value (option_and_then (λ t. option_map (λ ts. signed sign t ∷ ts) None) t) ≡ None
    by-term None = refl
    by-term (Some t) = refl
two-none sign s signs part (next ∷ parts) = by-term (term part)
  where
    by-rest : (t : Term) (u : Term) (rest : Option (List Signed)) → option_and_then lone_value (option_map (λ ts. signed sign t ∷ ts) (option_map (λ ts. signed s u ∷ ts) rest)) ≡ None
    by-rest t u None = refl
    by-rest t u (Some ts) = refl

    by-next : (t : Term) (u : Option Term) →
        option_and_then lone_value (option_map (λ ts. signed sign t ∷ ts) (option_and_then (λ u. option_map (λ ts. signed s u ∷ ts) (terms_with signs parts)) u)) ≡ None
    by-next t None = refl
    by-next t (Some u) = by-rest t u (terms_with signs parts)

    by-term : (t : Option Term) → option_and_then lone_value (option_and_then (λ t. option_map (λ ts. signed sign t ∷ ts) (terms_with (s ∷ signs) (next ∷ parts))) t) ≡ None
    by-term None = refl
    by-term (Some t) = by-next t (term next)

some-signs : (text : List ℕ) → list_any is_sign text ≡ true → (s : ℕ) × (signs : List ℕ) × (filter is_sign text ≡ s ∷ signs)
some-signs [] some = absurd (cc)
some-signs (c ∷ text) some = by-first (is_sign c) refl (λ others. some-signs text others)
  where
    by-first : (b : Bool) → is_sign c ≡ b → (list_any is_sign text ≡ true → (s : ℕ) × (signs : List ℕ) × (filter is_sign text ≡ s ∷ signs)) →
        (s : ℕ) × (signs : List ℕ) × (filter is_sign (c ∷ text) ≡ s ∷ signs)
    by-first true is more = (c, filter is_sign text, simp is)
    by-first false is more =
        let others : list_any is_sign text ≡ true = simp is at some in
        let rest = more others in
        let same : filter is_sign (c ∷ text) ≡ filter is_sign text = simp is in
        (rest.0, rest.1, same ∙ rest.2)

two-parts : (sign s : ℕ) (signs : List ℕ) (parts : List (List ℕ)) → option_and_then lone_value (terms_with (sign ∷ s ∷ signs) parts) ≡ None
two-parts sign s signs [] = refl
two-parts sign s signs (part ∷ parts) = two-none sign s signs part parts

by-signs : (sign : ℕ) (text : List ℕ) (b : Bool) → list_any is_sign text ≡ b →
    option_and_then lone_value (terms_after sign text) ≡ option_map (joined (pos 0) (is_minus sign)) (option_map pos (number text))
by-signs sign text true is =
    let some = some-signs text is in
    ap (λ signs. option_and_then lone_value (terms_with (sign ∷ signs) (slice_split is_sign text))) some.2
    ∙ two-parts sign some.0 some.1 (slice_split is_sign text)
    ∙ sym (ap (λ n. option_map (joined (pos 0) (is_minus sign)) (option_map pos n)) (number-none text is))
by-signs sign text false is =
    ap (λ signs. option_and_then lone_value (terms_with (sign ∷ signs) (slice_split is_sign text))) (none-signs text is)
    ∙ ap (λ parts. option_and_then lone_value (terms_with (sign ∷ []) parts)) (none-split text is)
    ∙ one-value sign (term text)
    ∙ ap (option_map (joined (pos 0) (is_minus sign))) (constant-term text)

-- the value of one number that follows a sign
pub lone-number : (sign : ℕ) (text : List ℕ) →
    option_and_then lone_value (terms_after sign text) ≡ option_map (joined (pos 0) (is_minus sign)) (option_map pos (number text))
lone-number sign text = by-signs sign text (list_any is_sign text) refl

-- ---- the first byte of an expression

abbrev first_terms : Bool → ℕ → List ℕ → Option (List Signed)
first_terms minus c text = if minus then terms_after 45 text else terms_after 43 (c ∷ text)

pub terms-minus : (text : List ℕ) → 1 ≤ length text → get_or text 0 0 ≡ 45 → terms text ≡ terms_after 45 (take (length text - 1) (drop 1 text))
terms-minus [] some is = absurd (omega arith)
terms-minus (c ∷ text) some is =
    let minus : is_minus c ≡ true = eq-eqb c 45 is in
    ap (λ b. first_terms b c text) minus ∙ ap (terms_after 45) (sym (take_rest (c ∷ text) 1))

pub terms-plain : (text : List ℕ) → (get_or text 0 0 ≡ 45 → ⊥) → 1 ≤ length text → terms text ≡ terms_after 43 text
terms-plain [] other some = absurd (omega arith)
terms-plain (c ∷ text) other some = let minus : is_minus c ≡ false = grind (arith, nat_tests) in ap (λ b. first_terms b c text) minus
