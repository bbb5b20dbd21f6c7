-- The value of an expression of numbers is what its terms give.
use Rattle.std.proofs.Common.{◌≡◌, ℕ, ◌==◌, ◌||◌, Bool, true, false, Option, Some, None, List, [], ◌∷◌, ◌++◌, refl, ap, sym, ◌∙◌, subst, append_assoc, append-nil, arith, ℤ, pos, ◌+ℤ◌, ◌-ℤ◌}
use Rattle.std.specs.Prelude.{option_map, option_and_then, if◌then◌else◌}
use Rattle.std.specs.List.{list_any}
use Rattle.std.proofs.lemmas.Bool.{eqb-true}
use Rattle.std.proofs.lemmas.Int.{ints}
use Rattle.asm_model.specs.Characters.{is_sign, is_minus}
use Rattle.asm_model.specs.Numbers.{number}
use Rattle.asm_model.specs.Expressions.{Term, term, terms, terms_after, value_of, constant_meaning}
use Rattle.asm_text.specs.Terms.{joined}
use Rattle.asm_text.proofs.Constants.{constant-term}
use Rattle.asm_text.proofs.Lone.{number-none}
use Rattle.asm_text.proofs.Folds.{fold_from, with_term, fold_from-terms}
use Rattle.asm_text.proofs.Sums.{add_step, fold-values}
use Rattle.asm_lines.specs.Sums.{IsOneNumber, plain, minus, HasValue, one, plus, less}

-- the value of an expression of numbers
abbrev pub sum_of : List ℕ → Option ℤ
sum_of text = option_and_then (value_of constant_meaning) (terms text)

-- the value with the term that has begun and the terms that follow
abbrev from : ℤ → ℕ → List ℕ → List ℕ → Option ℤ
from value sign part text = fold_from (add_step constant_meaning) value sign part text

-- ---- one term

joined-term : (value : ℤ) (away : Bool) (t : Option Term) →
    option_and_then (add_step constant_meaning value away) t ≡ option_map (joined value away) (option_and_then constant_meaning t)
joined-term value away None = refl
joined-term value away (Some t) = refl

pub part-value : (value : ℤ) (sign : ℕ) (part : List ℕ) →
    with_term (add_step constant_meaning) value sign part ≡ option_map (joined value (is_minus sign)) (option_map pos (number part))
part-value value sign part = joined-term value (is_minus sign) (term part) ∙ ap (option_map (joined value (is_minus sign))) (constant-term part)

with-number : (value : ℤ) (sign n : ℕ) (part : List ℕ) → number part ≡ Some n → with_term (add_step constant_meaning) value sign part ≡ Some (joined value (is_minus sign) (pos n))
with-number value sign n part is = part-value value sign part ∙ ap (λ o. option_map (joined value (is_minus sign)) (option_map pos o)) is

-- what a term that has a value gives
number-back : (value : ℤ) (sign : ℕ) (part : List ℕ) (z : ℤ) (o : Option ℕ) → number part ≡ o → with_term (add_step constant_meaning) value sign part ≡ Some z →
    (n : ℕ) × (number part ≡ Some n) × (joined value (is_minus sign) (pos n) ≡ z)
number-back value sign part z None is whole =
    let none : None ≡ Some z = sym (part-value value sign part ∙ ap (λ o. option_map (joined value (is_minus sign)) (option_map pos o)) is) ∙ whole in
    absurd (cc)
number-back value sign part z (Some n) is whole =
    let some : Some (joined value (is_minus sign) (pos n)) ≡ Some z = sym (with-number value sign n part is) ∙ whole in
    (n, is, cc)

-- ---- a number has no sign

some-number : (text : List ℕ) (n : ℕ) (b : Bool) → number text ≡ Some n → list_any is_sign text ≡ b → list_any is_sign text ≡ false
some-number text n true is some = let none = number-none text some in absurd (cc)
some-number text n false is none = none

pub unsigned : (text : List ℕ) (n : ℕ) → number text ≡ Some n → list_any is_sign text ≡ false
unsigned text n is = some-number text n (list_any is_sign text) is refl

or_left : (a b : Bool) → (a || b) ≡ false → a ≡ false
or_left true b is = is
or_left false b is = refl

or_right : (a b : Bool) → (a || b) ≡ false → b ≡ false
or_right true b is = absurd (cc)
or_right false b is = is

no-sign : (value : ℤ) (sign : ℕ) (part text : List ℕ) → list_any is_sign text ≡ false → from value sign part text ≡ with_term (add_step constant_meaning) value sign (part ++ text)
no-sign value sign part [] none = ap (with_term (add_step constant_meaning) value sign) (sym (append-nil part))
no-sign value sign part (c ∷ text) none =
    let first : is_sign c ≡ false = or_left (is_sign c) (list_any is_sign text) none in
    let step : from value sign part (c ∷ text) ≡ from value sign (part ++ c ∷ []) text = simp first in
    step ∙ no-sign value sign (part ++ c ∷ []) text (or_right (is_sign c) (list_any is_sign text) none)
    ∙ ap (with_term (add_step constant_meaning) value sign) (append_assoc part (c ∷ []) text)

-- ---- one number more

and-same : (f g : ℤ → Option ℤ) → ((x : ℤ) → f x ≡ g x) → (o : Option ℤ) → option_and_then f o ≡ option_and_then g o
and-same f g same None = refl
and-same f g same (Some x) = same x

and-twice : (f g : ℤ → Option ℤ) (o : Option ℤ) → option_and_then (λ x. option_and_then f (g x)) o ≡ option_and_then f (option_and_then g o)
and-twice f g None = refl
and-twice f g (Some x) = refl

module _ (c n : ℕ) (text : List ℕ) (signed : is_sign c ≡ true) (is : number text ≡ Some n) where
  abbrev with_one : ℤ → Option ℤ
  with_one value = Some (joined value (is_minus c) (pos n))

  last : (value : ℤ) → from value c [] text ≡ with_one value
  last value = no-sign value c [] text (unsigned text n is) ∙ with-number value c n text is

  by-first : (value : ℤ) (sign : ℕ) (part : List ℕ) (d : ℕ) (e : List ℕ) (b : Bool) → is_sign d ≡ b →
      ((v : ℤ) (s : ℕ) (p : List ℕ) → from v s p (e ++ (c ∷ text)) ≡ option_and_then with_one (from v s p e)) →
      from value sign part ((d ∷ e) ++ (c ∷ text)) ≡ option_and_then with_one (from value sign part (d ∷ e))
  by-first value sign part d e true first others =
      let left : from value sign part ((d ∷ e) ++ (c ∷ text)) ≡ option_and_then (λ next. from next d [] (e ++ (c ∷ text))) (with_term (add_step constant_meaning) value sign part) = simp first in
      let right : from value sign part (d ∷ e) ≡ option_and_then (λ next. from next d [] e) (with_term (add_step constant_meaning) value sign part) = simp first in
      left ∙ and-same _ _ (λ next. others next d []) (with_term (add_step constant_meaning) value sign part)
      ∙ and-twice with_one (λ next. from next d [] e) (with_term (add_step constant_meaning) value sign part) ∙ ap (option_and_then with_one) (sym right)
  by-first value sign part d e false first others =
      let left : from value sign part ((d ∷ e) ++ (c ∷ text)) ≡ from value sign (part ++ d ∷ []) (e ++ (c ∷ text)) = simp first in
      let right : from value sign part (d ∷ e) ≡ from value sign (part ++ d ∷ []) e = simp first in
      left ∙ others value sign (part ++ d ∷ []) ∙ ap (option_and_then with_one) (sym right)

  pub one-more : (value : ℤ) (sign : ℕ) (part e : List ℕ) → from value sign part (e ++ (c ∷ text)) ≡ option_and_then with_one (from value sign part e)
  one-more value sign part [] =
      let step : from value sign part (c ∷ text) ≡ option_and_then (λ next. from next c [] text) (with_term (add_step constant_meaning) value sign part) = simp signed in
      step ∙ and-same _ _ last (with_term (add_step constant_meaning) value sign part)
  one-more value sign part (d ∷ e) = by-first value sign part d e (is_sign d) refl (λ v s p. one-more v s p e)

-- ---- the whole expression

after-sign : (sign : ℕ) (text : List ℕ) → option_and_then (value_of constant_meaning) (terms_after sign text) ≡ from (pos 0) sign [] text
after-sign sign text = sym (fold_from-terms (add_step constant_meaning) (pos 0) sign text ∙ fold-values constant_meaning (pos 0) (terms_after sign text))

sum-minus : (c : ℕ) (text : List ℕ) → is_minus c ≡ true → sum_of (c ∷ text) ≡ from (pos 0) 45 [] text
sum-minus c text is =
    ap (λ (b : Bool). option_and_then (value_of constant_meaning) (if b then terms_after 45 text else terms_after 43 (c ∷ text))) is ∙ after-sign 45 text

sum-plain : (c : ℕ) (text : List ℕ) → is_minus c ≡ false → sum_of (c ∷ text) ≡ from (pos 0) 43 [] (c ∷ text)
sum-plain c text is =
    ap (λ (b : Bool). option_and_then (value_of constant_meaning) (if b then terms_after 45 text else terms_after 43 (c ∷ text))) is ∙ after-sign 43 (c ∷ text)

-- ---- each value is that of the terms

zero-plus : (n : ℕ) → pos 0 +ℤ pos n ≡ pos n
zero-plus n = omega (arith, ints)

not-minus : (text : List ℕ) (c n : ℕ) → number (c ∷ text) ≡ Some n → is_minus c ≡ false
not-minus text c n is = or_right (c == 43) (is_minus c) (or_left (is_sign c) (list_any is_sign text) (unsigned (c ∷ text) n is))

one-value : (text : List ℕ) (z : ℤ) → IsOneNumber text z → sum_of text ≡ Some z
one-value _ _ (plain {text = []} {n = n} is) = absurd (cc)
one-value _ _ (plain {text = c ∷ text} {n = n} is) =
    sum-plain c text (not-minus text c n is) ∙ no-sign (pos 0) 43 [] (c ∷ text) (unsigned (c ∷ text) n is) ∙ with-number (pos 0) 43 n (c ∷ text) is ∙ ap (λ z. Some z) (zero-plus n)
one-value _ _ (minus {text = text} {n = n} is) =
    sum-minus 45 text refl ∙ no-sign (pos 0) 45 [] text (unsigned text n is) ∙ with-number (pos 0) 45 n text is

module _ (c n : ℕ) (text : List ℕ) (signed : is_sign c ≡ true) (is : number text ≡ Some n) (z : ℤ) where
  by-minus : (d : ℕ) (e : List ℕ) (b : Bool) → is_minus d ≡ b → sum_of (d ∷ e) ≡ Some z → sum_of ((d ∷ e) ++ (c ∷ text)) ≡ Some (joined z (is_minus c) (pos n))
  by-minus d e true first so_far =
      sum-minus d (e ++ (c ∷ text)) first ∙ one-more c n text signed is (pos 0) 45 [] e ∙ ap (option_and_then (with_one c n text signed is)) (sym (sum-minus d e first) ∙ so_far)
  by-minus d e false first so_far =
      sum-plain d (e ++ (c ∷ text)) first ∙ one-more c n text signed is (pos 0) 43 [] (d ∷ e) ∙ ap (option_and_then (with_one c n text signed is)) (sym (sum-plain d e first) ∙ so_far)

  sum-more : (e : List ℕ) → sum_of e ≡ Some z → sum_of (e ++ (c ∷ text)) ≡ Some (joined z (is_minus c) (pos n))
  sum-more [] so_far = absurd (cc)
  sum-more (d ∷ e) so_far = by-minus d e (is_minus d) refl so_far

pub value-found : (text : List ℕ) (z : ℤ) → HasValue text z → sum_of text ≡ Some z
value-found text z (one is) = one-value text z is
value-found _ _ (plus {e = e} {z = z} {n = n} text so_far is) = sum-more 43 n text refl is z e (value-found e z so_far)
value-found _ _ (less {e = e} {z = z} {n = n} text so_far is) = sum-more 45 n text refl is z e (value-found e z so_far)

-- ---- the value of the terms is a value of the text

abbrev HasAt : ℤ → List ℕ → Type 0
HasAt z text = HasValue text z

sign-cases : (s : ℕ) (b : Bool) → is_sign s ≡ true → is_minus s ≡ b → (pre part : List ℕ) (v : ℤ) (n : ℕ) → HasValue pre v → number part ≡ Some n → HasValue (pre ++ (s ∷ part)) (joined v b (pos n))
sign-cases s true signed away pre part v n so_far is =
    let same : 45 ≡ s = sym (eqb-true s 45 away) in
    subst (λ (s : ℕ). HasValue (pre ++ (s ∷ part)) (v -ℤ pos n)) same (less part so_far is)
sign-cases s false signed away pre part v n so_far is =
    let added : (s == 43) ≡ true = plus-left (s == 43) (is_minus s) signed away in
    let same : 43 ≡ s = sym (eqb-true s 43 added) in
    subst (λ (s : ℕ). HasValue (pre ++ (s ∷ part)) (v +ℤ pos n)) same (plus part so_far is)
  where
    plus-left : (a b : Bool) → (a || b) ≡ true → b ≡ false → a ≡ true
    plus-left true b some none = refl
    plus-left false b some none = absurd (cc)

one-grows : (pre : List ℕ) (v : ℤ) (s : ℕ) (part : List ℕ) (z : ℤ) → HasValue pre v → is_sign s ≡ true → with_term (add_step constant_meaning) v s part ≡ Some z → HasValue (pre ++ (s ∷ part)) z
one-grows pre v s part z so_far signed whole =
    let back = number-back v s part z (number part) refl whole in
    subst (HasValue (pre ++ (s ∷ part))) back.2 (sign-cases s (is_minus s) signed refl pre part v back.0 so_far back.1)

grows : (pre : List ℕ) (v : ℤ) (s : ℕ) (part rest : List ℕ) (z : ℤ) → HasValue pre v → is_sign s ≡ true → from v s part rest ≡ Some z → HasValue (pre ++ (s ∷ (part ++ rest))) z
grows pre v s part [] z so_far signed whole =
    subst (λ (p : List ℕ). HasValue (pre ++ (s ∷ p)) z) (sym (append-nil part)) (one-grows pre v s part z so_far signed whole)
grows pre v s part (c ∷ rest) z so_far signed whole =
    by-sign (is_sign c) refl (λ pre w d part first has next. grows pre w d part rest z has first next)
  where
    begun : is_sign c ≡ true → (o : Option ℤ) → with_term (add_step constant_meaning) v s part ≡ o → option_and_then (λ next. from next c [] rest) o ≡ Some z →
        ((pre : List ℕ) (w : ℤ) (d : ℕ) (part : List ℕ) → is_sign d ≡ true → HasValue pre w → from w d part rest ≡ Some z → HasValue (pre ++ (d ∷ (part ++ rest))) z) →
        HasValue (pre ++ (s ∷ (part ++ (c ∷ rest)))) z
    begun first None is next others = absurd (cc)
    begun first (Some w) is next others =
        subst (HasAt z) (append_assoc pre (s ∷ part) (c ∷ rest)) (others (pre ++ (s ∷ part)) w c [] first (one-grows pre v s part w so_far signed is) next)

    by-sign : (b : Bool) → is_sign c ≡ b →
        ((pre : List ℕ) (w : ℤ) (d : ℕ) (part : List ℕ) → is_sign d ≡ true → HasValue pre w → from w d part rest ≡ Some z → HasValue (pre ++ (d ∷ (part ++ rest))) z) →
        HasValue (pre ++ (s ∷ (part ++ (c ∷ rest)))) z
    by-sign true first others =
        let step : from v s part (c ∷ rest) ≡ option_and_then (λ next. from next c [] rest) (with_term (add_step constant_meaning) v s part) = simp first in
        begun first (with_term (add_step constant_meaning) v s part) refl (sym step ∙ whole) others
    by-sign false first others =
        let step : from v s part (c ∷ rest) ≡ from v s (part ++ c ∷ []) rest = simp first in
        subst (λ (p : List ℕ). HasValue (pre ++ (s ∷ p)) z) (append_assoc part (c ∷ []) rest)
        (others pre v s (part ++ c ∷ []) signed so_far (sym step ∙ whole))

-- the first number, after a `-` or after nothing
abbrev opened : Bool → List ℕ → List ℕ
opened true text = 45 ∷ text
opened false text = text

abbrev sign_of : Bool → ℕ
sign_of true = 45
sign_of false = 43

one-first : (b : Bool) (part : List ℕ) (z : ℤ) → with_term (add_step constant_meaning) (pos 0) (sign_of b) part ≡ Some z → HasValue (opened b part) z
one-first true part z whole =
    let back = number-back (pos 0) 45 part z (number part) refl whole in
    subst (HasValue (45 ∷ part)) back.2 (one (minus back.1))
one-first false part z whole =
    let back = number-back (pos 0) 43 part z (number part) refl whole in
    subst (HasValue part) (sym (zero-plus back.0) ∙ back.2) (one (plain back.1))

opened-more : (b : Bool) (part rest : List ℕ) → opened b part ++ rest ≡ opened b (part ++ rest)
opened-more true part rest = refl
opened-more false part rest = refl

first-grows : (b : Bool) (part rest : List ℕ) (z : ℤ) → from (pos 0) (sign_of b) part rest ≡ Some z → HasValue (opened b (part ++ rest)) z
first-grows b part [] z whole = subst (λ (p : List ℕ). HasValue (opened b p) z) (sym (append-nil part)) (one-first b part z whole)
first-grows b part (c ∷ rest) z whole = by-sign (is_sign c) refl (λ part next. first-grows b part rest z next)
  where
    begun : is_sign c ≡ true → (o : Option ℤ) → with_term (add_step constant_meaning) (pos 0) (sign_of b) part ≡ o → option_and_then (λ next. from next c [] rest) o ≡ Some z →
        HasValue (opened b (part ++ (c ∷ rest))) z
    begun first None is next = absurd (cc)
    begun first (Some w) is next =
        subst (HasAt z) (opened-more b part (c ∷ rest)) (grows (opened b part) w c [] rest z (one-first b part w is) first next)

    by-sign : (d : Bool) → is_sign c ≡ d → ((part : List ℕ) → from (pos 0) (sign_of b) part rest ≡ Some z → HasValue (opened b (part ++ rest)) z) →
        HasValue (opened b (part ++ (c ∷ rest))) z
    by-sign true first others =
        let step : from (pos 0) (sign_of b) part (c ∷ rest) ≡ option_and_then (λ next. from next c [] rest) (with_term (add_step constant_meaning) (pos 0) (sign_of b) part) = simp first in
        begun first (with_term (add_step constant_meaning) (pos 0) (sign_of b) part) refl (sym step ∙ whole)
    by-sign false first others =
        let step : from (pos 0) (sign_of b) part (c ∷ rest) ≡ from (pos 0) (sign_of b) (part ++ c ∷ []) rest = simp first in
        subst (λ (p : List ℕ). HasValue (opened b p) z) (append_assoc part (c ∷ []) rest) (others (part ++ c ∷ []) (sym step ∙ whole))

pub value-of-found : (text : List ℕ) (z : ℤ) → sum_of text ≡ Some z → HasValue text z
value-of-found [] z whole = absurd (cc)
value-of-found (c ∷ text) z whole = by-minus (is_minus c) refl
  where
    by-minus : (b : Bool) → is_minus c ≡ b → HasValue (c ∷ text) z
    by-minus true first =
        subst (λ (d : ℕ). HasValue (d ∷ text) z) (sym (eqb-true c 45 first)) (first-grows true [] text z (sym (sum-minus c text first) ∙ whole))
    by-minus false first = first-grows false [] (c ∷ text) z (sym (sum-plain c text first) ∙ whole)
