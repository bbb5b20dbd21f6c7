-- A text is an expression by its form if and only if it has terms.
use Rattle.std.proofs.Common.{◌≡◌, ℕ, ◌==◌, ◌&&◌, ◌||◌, Bool, true, false, cond, Option, Some, None, List, [], ◌∷◌, ◌++◌, filter, refl, ap, sym, subst, ◌∙◌, append_assoc, append-nil, arith, ℤ, pos, ◌+ℤ◌, ◌-ℤ◌}
use Rattle.std.specs.Prelude.{is_some, nat_le, not, option_map, option_and_then, length, if◌then◌else◌}
use Rattle.std.specs.Option.{option_map_or}
use Rattle.std.specs.List.{slice_split, onto_first, list_all, list_any}
use Rattle.std.proofs.lemmas.Bool.{and_parts, eqb-true}
use Rattle.std.proofs.lemmas.Bool.Decides.{nat_tests}
use Rattle.std.proofs.lemmas.List.Folds.{list_all-append}
use Rattle.asm_model.specs.Characters.{is_star, is_sign, is_minus}
use Rattle.asm_model.specs.Numbers.{number}
use Rattle.asm_model.specs.Expressions.{Term, constant, label, here, Signed, signed, star, term, terms, terms_with, terms_after, value_after, value_of, constant_meaning, is_letter, is_label_character, longest_label, is_register_name, is_label}
use Rattle.asm_model.specs.Statements.{is_expression, is_constant, is_constant_expression}
use Rattle.asm_model.proofs.Spaces.{or_left, or_right}
use Rattle.asm_lines.specs.Sums.{HasValue}
use Rattle.asm_lines.specs.Expressions.{IsExpression, one, minus, plus, less}
use Rattle.asm_lines.proofs.Bytes.{is_expression_byte, label-byte, none-of, apart, number-without}
use Rattle.asm_lines.proofs.Joined.{split-one, split-some, split-more}
use Rattle.asm_lines.proofs.SumValues.{sum_of, value-found, value-of-found, unsigned}

-- ---- the bytes of a term

and-two : (a b c d : Bool) → (a && b && c && d) ≡ true → (a ≡ true) × (b ≡ true)
and-two true true c d is = (refl, refl)
and-two true false c d is = absurd (cc)
and-two false b c d is = absurd (cc)

any-next : (q : ℕ → Bool) (c : ℕ) (text : List ℕ) → q c ≡ false → list_any q text ≡ false → list_any q (c ∷ text) ≡ false
any-next q c text first rest = simp (first, rest)

-- a kind of bytes that no term has
module _ (q : ℕ → Bool) (no_star : q 42 ≡ false) (no_label : (c : ℕ) → is_label_character c ≡ true → q c ≡ false)
    (no_number : (text : List ℕ) (n : ℕ) → number text ≡ Some n → list_any q text ≡ false) where
  of-number : (text : List ℕ) (o : Option ℕ) (t : Term) → number text ≡ o → option_map constant o ≡ Some t → list_any q text ≡ false
  of-number text None t is whole = absurd (cc)
  of-number text (Some n) t is whole = no_number text n is

  of-star : (c : ℕ) (text : List ℕ) (t : Term) → is_star c ≡ true → star text ≡ Some t → list_any q (c ∷ text) ≡ false
  of-star c [] t is whole = any-next q c [] (ap q (eqb-true c 42 is) ∙ no_star) refl
  of-star c (d ∷ text) t is whole = absurd (cc)

  of-label : (c : ℕ) (text : List ℕ) → is_label (c ∷ text) ≡ true → list_any q (c ∷ text) ≡ false
  of-label c text is =
      let both = and-two (is_letter c) (list_all is_label_character text) (nat_le (length (c ∷ text)) longest_label) (not (is_register_name (c ∷ text))) is in
      let first : is_label_character c ≡ true = ap (λ b. b || (nat_le 48 c && nat_le c 57)) both.0 in
      any-next q c text (no_label c first) (none-of is_label_character q no_label text both.1)

  term-free : (text : List ℕ) (t : Term) → term text ≡ Some t → list_any q text ≡ false
  term-free [] t is = absurd (cc)
  term-free (c ∷ text) t is = by-star (is_star c) refl is
    where
      by-label : (b : Bool) → is_label (c ∷ text) ≡ b → (if b then Some (label (c ∷ text)) else option_map constant (number (c ∷ text))) ≡ Some t → list_any q (c ∷ text) ≡ false
      by-label true first whole = of-label c text first
      by-label false first whole = of-number (c ∷ text) (number (c ∷ text)) t refl whole

      by-star : (b : Bool) → is_star c ≡ b →
          (if b then star text else (if is_label (c ∷ text) then Some (label (c ∷ text)) else option_map constant (number (c ∷ text)))) ≡ Some t → list_any q (c ∷ text) ≡ false
      by-star true first whole = of-star c text t first whole
      by-star false first whole = by-label (is_label (c ∷ text)) refl whole

label-sign : (c : ℕ) → is_label_character c ≡ true → is_sign c ≡ false
label-sign c is = grind (arith, nat_tests)

term-sign : (text : List ℕ) (t : Term) → term text ≡ Some t → list_any is_sign text ≡ false
term-sign text t is = term-free is_sign refl label-sign unsigned text t is

pub any-more : (q : ℕ → Bool) (e rest : List ℕ) → list_any q e ≡ false → list_any q rest ≡ false → list_any q (e ++ rest) ≡ false
any-more q [] rest first second = second
any-more q (c ∷ e) rest first second =
    any-next q c (e ++ rest) (or_left (q c) (list_any q e) first) (any-more q e rest (or_right (q c) (list_any q e) first) second)

-- an expression has no byte of another kind
module _ (k : ℕ) (none : is_expression_byte k ≡ false) where
  term-without : (text : List ℕ) (t : Term) → term text ≡ Some t → list_any (λ c. c == k) text ≡ false
  term-without text t is =
      term-free (λ c. c == k) (apart k 42 none refl) (λ c its. apart k c none (label-byte c its)) (λ text n its. number-without k none text n its) text t is

  sign-without : (sign : ℕ) (text : List ℕ) (t : Term) → is_expression_byte sign ≡ true → term text ≡ Some t → list_any (λ c. c == k) (sign ∷ text) ≡ false
  sign-without sign text t signs is = any-next (λ c. c == k) sign text (apart k sign none signs) (term-without text t is)

  pub expression-without : (e : List ℕ) → IsExpression e → list_any (λ c. c == k) e ≡ false
  expression-without e (one {t = t} is) = term-without e t is
  expression-without _ (minus {text = text} {t = t} is) = sign-without 45 text t refl is
  expression-without _ (plus {e = e} {t = t} text so_far is) =
      any-more (λ c. c == k) e (43 ∷ text) (expression-without e so_far) (sign-without 43 text t refl is)
  expression-without _ (less {e = e} {t = t} text so_far is) =
      any-more (λ c. c == k) e (45 ∷ text) (expression-without e so_far) (sign-without 45 text t refl is)

-- ---- the terms of parts

abbrev is_term : List ℕ → Bool
is_term text = is_some (term text)

-- as many signs as parts
abbrev alike : List ℕ → List (List ℕ) → Bool
alike [] [] = true
alike (sign ∷ signs) (part ∷ parts) = alike signs parts
alike _ _ = false

both-some : (sign : ℕ) (o : Option Term) (r : Option (List Signed)) → is_some (option_and_then (λ t. option_map (λ ts. signed sign t ∷ ts) r) o) ≡ (is_some o && is_some r)
both-some sign None r = refl
both-some sign (Some t) None = refl
both-some sign (Some t) (Some ts) = refl

with-parts : (signs : List ℕ) (parts : List (List ℕ)) → alike signs parts ≡ true → is_some (terms_with signs parts) ≡ list_all is_term parts
with-parts [] [] is = refl
with-parts [] (part ∷ parts) is = absurd (cc)
with-parts (sign ∷ signs) [] is = absurd (cc)
with-parts (sign ∷ signs) (part ∷ parts) is =
    both-some sign (term part) (terms_with signs parts) ∙ ap (λ b. is_term part && b) (with-parts signs parts is)

alike-onto : (c sign : ℕ) (signs : List ℕ) (parts : List (List ℕ)) → alike (sign ∷ signs) parts ≡ true → alike (sign ∷ signs) (onto_first c parts) ≡ true
alike-onto c sign signs [] is = absurd (cc)
alike-onto c sign signs (part ∷ parts) is = is

alike-split : (sign : ℕ) (text : List ℕ) → alike (sign ∷ filter is_sign text) (slice_split is_sign text) ≡ true
alike-split sign [] = refl
alike-split sign (c ∷ text) = by-sign (is_sign c) refl (λ s. alike-split s text)
  where
    by-sign : (b : Bool) → is_sign c ≡ b → ((s : ℕ) → alike (s ∷ filter is_sign text) (slice_split is_sign text) ≡ true) →
        alike (sign ∷ filter is_sign (c ∷ text)) (slice_split is_sign (c ∷ text)) ≡ true
    by-sign true is others =
        ap (λ b. alike (sign ∷ (if b then c ∷ filter is_sign text else filter is_sign text)) (cond b ([] ∷ slice_split is_sign text) (onto_first c (slice_split is_sign text)))) is
        ∙ others c
    by-sign false is others =
        ap (λ b. alike (sign ∷ (if b then c ∷ filter is_sign text else filter is_sign text)) (cond b ([] ∷ slice_split is_sign text) (onto_first c (slice_split is_sign text)))) is
        ∙ alike-onto c sign (filter is_sign text) (slice_split is_sign text) (others sign)

abbrev all_terms : List ℕ → Bool
all_terms text = list_all is_term (slice_split is_sign text)

after-some : (sign : ℕ) (text : List ℕ) → is_some (terms_after sign text) ≡ all_terms text
after-some sign text = with-parts (sign ∷ filter is_sign text) (slice_split is_sign text) (alike-split sign text)

-- a text without the `-` that it begins with
abbrev unsigned_text : List ℕ → List ℕ
unsigned_text [] = []
unsigned_text (c ∷ text) = if is_minus c then text else c ∷ text

terms-some : (text : List ℕ) → is_expression text ≡ all_terms (unsigned_text text)
terms-some [] = refl
terms-some (c ∷ text) = by-minus (is_minus c)
  where
    by-minus : (b : Bool) → is_some (if b then terms_after 45 text else terms_after 43 (c ∷ text)) ≡ all_terms (if b then text else c ∷ text)
    by-minus true = after-some 45 text
    by-minus false = after-some 43 (c ∷ text)

-- ---- an expression by its form has terms

lone-term : (text : List ℕ) (t : Term) → term text ≡ Some t → all_terms text ≡ true
lone-term text t is =
    let some : is_term text ≡ true = ap is_some is in
    ap (list_all is_term) (split-one is_sign text (term-sign text t is)) ∙ ap (λ b. b && true) some

not-minus : (c : ℕ) (text : List ℕ) → list_any is_sign (c ∷ text) ≡ false → is_minus c ≡ false
not-minus c text free = or_right (c == 43) (is_minus c) (or_left (is_sign c) (list_any is_sign text) free)

plain-term : (text : List ℕ) (t : Term) → term text ≡ Some t → all_terms (unsigned_text text) ≡ true
plain-term [] t is = absurd (cc)
plain-term (c ∷ text) t is =
    ap (λ (b : Bool). all_terms (if b then text else c ∷ text)) (not-minus c text (term-sign (c ∷ text) t is)) ∙ lone-term (c ∷ text) t is

unsigned-more : (c : ℕ) (e rest : List ℕ) (b : Bool) → (if b then e ++ rest else c ∷ (e ++ rest)) ≡ (if b then e else c ∷ e) ++ rest
unsigned-more c e rest true = refl
unsigned-more c e rest false = refl

more-terms : (e text : List ℕ) (sign : ℕ) (t : Term) → is_sign sign ≡ true → term text ≡ Some t → all_terms e ≡ true → all_terms (e ++ (sign ∷ text)) ≡ true
more-terms e text sign t is its so_far =
    let some : is_term text ≡ true = ap is_some its in
    ap (list_all is_term) (split-more is_sign sign is e text (term-sign text t its))
    ∙ list_all-append is_term (slice_split is_sign e) (text ∷ []) ∙ ap (λ b. b && (is_term text && true)) so_far ∙ ap (λ b. b && true) some

grown : (e text : List ℕ) (sign : ℕ) (t : Term) → is_sign sign ≡ true → term text ≡ Some t → all_terms (unsigned_text e) ≡ true → all_terms (unsigned_text (e ++ (sign ∷ text))) ≡ true
grown [] text sign t is its so_far = absurd (cc)
grown (c ∷ e) text sign t is its so_far =
    ap all_terms (unsigned-more c e (sign ∷ text) (is_minus c)) ∙ more-terms (unsigned_text (c ∷ e)) text sign t is its so_far

has-terms : (e : List ℕ) → IsExpression e → all_terms (unsigned_text e) ≡ true
has-terms e (one {t = t} is) = plain-term e t is
has-terms _ (minus {text = text} {t = t} is) = lone-term text t is
has-terms _ (plus {e = e} {t = t} text so_far is) = grown e text 43 t refl is (has-terms e so_far)
has-terms _ (less {e = e} {t = t} text so_far is) = grown e text 45 t refl is (has-terms e so_far)

pub expression-is : (e : List ℕ) → IsExpression e → is_expression e ≡ true
expression-is e is = terms-some e ∙ has-terms e is

-- ---- a text with terms is an expression by its form

some-back : (text : List ℕ) (o : Option Term) → term text ≡ o → is_some o ≡ true → (t : Term) × (term text ≡ Some t)
some-back text None is some = absurd (cc)
some-back text (Some t) is some = (t, is)

-- a front of the first part
abbrev onto : List ℕ → List (List ℕ) → List (List ℕ)
onto part [] = part ∷ []
onto part (p ∷ ps) = (part ++ p) ∷ ps

onto-nothing : (parts : List (List ℕ)) (first : List ℕ) (rest : List (List ℕ)) → parts ≡ first ∷ rest → onto [] parts ≡ parts
onto-nothing parts first rest is = ap (onto []) is ∙ sym is

onto-byte : (part : List ℕ) (c : ℕ) (parts : List (List ℕ)) (first : List ℕ) (rest : List (List ℕ)) → parts ≡ first ∷ rest → onto part (onto_first c parts) ≡ onto (part ++ (c ∷ [])) parts
onto-byte part c parts first rest is =
    ap (λ ps. onto part (onto_first c ps)) is ∙ ap (λ p. p ∷ rest) (sym (append_assoc part (c ∷ []) first)) ∙ sym (ap (onto (part ++ (c ∷ []))) is)

signed-more : (s : ℕ) (front text : List ℕ) (t : Term) → is_sign s ≡ true → IsExpression front → term text ≡ Some t → IsExpression (front ++ (s ∷ text))
signed-more s front text t is so_far its = by-plus (s == 43) refl
  where
    or-second : (a b : Bool) → (a || b) ≡ true → a ≡ false → b ≡ true
    or-second true b some none = absurd (cc)
    or-second false b some none = some

    by-plus : (b : Bool) → (s == 43) ≡ b → IsExpression (front ++ (s ∷ text))
    by-plus true same = subst (λ (s : ℕ). IsExpression (front ++ (s ∷ text))) (sym (eqb-true s 43 same)) (plus text so_far its)
    by-plus false other =
        subst (λ (s : ℕ). IsExpression (front ++ (s ∷ text))) (sym (eqb-true s 45 (or-second (s == 43) (is_minus s) is other))) (less text so_far its)

-- texts that a term makes expressions
record Front (front : List ℕ → List ℕ) : Type 0 where
  makes : (p : List ℕ) (t : Term) → term p ≡ Some t → IsExpression (front p)
  goes_on : (p q : List ℕ) → front p ++ q ≡ front (p ++ q)

behind : (front : List ℕ → List ℕ) (part : List ℕ) (s : ℕ) → is_sign s ≡ true → IsExpression (front part) → Front (λ p. front part ++ (s ∷ p))
behind front part s is so_far =
    record { makes = λ p t its. signed-more s (front part) p t is so_far its; goes_on = λ p q. append_assoc (front part) (s ∷ p) q }

grow : (front : List ℕ → List ℕ) → Front front → (part rest : List ℕ) → list_all is_term (onto part (slice_split is_sign rest)) ≡ true → IsExpression (front (part ++ rest))
grow front f part [] is =
    let its = some-back (part ++ []) (term (part ++ [])) refl (and_parts (is_term (part ++ [])) true is).0 in f.makes (part ++ []) its.0 its.1
grow front f part (c ∷ rest) is = by-sign (is_sign c) refl (λ front f part others. grow front f part rest others)
  where
    by-sign : (b : Bool) → is_sign c ≡ b →
        ((front : List ℕ → List ℕ) → Front front → (part : List ℕ) → list_all is_term (onto part (slice_split is_sign rest)) ≡ true → IsExpression (front (part ++ rest))) →
        IsExpression (front (part ++ (c ∷ rest)))
    by-sign true sign others =
        let whole : (is_term (part ++ []) && all_terms rest) ≡ true =
        sym (ap (λ b. list_all is_term (onto part (cond b ([] ∷ slice_split is_sign rest) (onto_first c (slice_split is_sign rest))))) sign) ∙ is in
        let both = and_parts (is_term (part ++ [])) (all_terms rest) whole in
        let its = some-back (part ++ []) (term (part ++ [])) refl both.0 in
        let so_far : IsExpression (front part) = f.makes part its.0 (ap term (sym (append-nil part)) ∙ its.1) in
        let parts = split-some is_sign rest in
        let all : list_all is_term (onto [] (slice_split is_sign rest)) ≡ true =
        ap (list_all is_term) (onto-nothing (slice_split is_sign rest) parts.0 parts.1 parts.2) ∙ both.1 in
        subst IsExpression (f.goes_on part (c ∷ rest)) (others (λ p. front part ++ (c ∷ p)) (behind front part c sign so_far) [] all)
    by-sign false sign others =
        let parts = split-some is_sign rest in
        let whole : list_all is_term (onto (part ++ (c ∷ [])) (slice_split is_sign rest)) ≡ true =
        sym (ap (λ b. list_all is_term (onto part (cond b ([] ∷ slice_split is_sign rest) (onto_first c (slice_split is_sign rest))))) sign
        ∙ ap (list_all is_term) (onto-byte part c (slice_split is_sign rest) parts.0 parts.1 parts.2)) ∙ is in
        subst (λ (p : List ℕ). IsExpression (front p)) (append_assoc part (c ∷ []) rest) (others front f (part ++ (c ∷ [])) whole)

from-start : (front : List ℕ → List ℕ) → Front front → (text : List ℕ) → all_terms text ≡ true → IsExpression (front text)
from-start front f text is =
    let parts = split-some is_sign text in
    grow front f [] text (ap (list_all is_term) (onto-nothing (slice_split is_sign text) parts.0 parts.1 parts.2) ∙ is)

pub expression-back : (e : List ℕ) → is_expression e ≡ true → IsExpression e
expression-back [] is = absurd (cc)
expression-back (c ∷ text) is = by-minus (is_minus c) refl (sym (terms-some (c ∷ text)) ∙ is)
  where
    by-minus : (b : Bool) → is_minus c ≡ b → all_terms (if b then text else c ∷ text) ≡ true → IsExpression (c ∷ text)
    by-minus true first all =
        subst (λ (d : ℕ). IsExpression (d ∷ text)) (sym (eqb-true c 45 first))
        (from-start (λ p. 45 ∷ p) (record { makes = λ p t its. minus its; goes_on = λ p q. refl }) text all)
    by-minus false first all = from-start (λ p. p) (record { makes = λ p t its. one its; goes_on = λ p q. refl }) (c ∷ text) all

-- ---- expressions of numbers alone

value-some : (ts : List Signed) (z : ℤ) → list_all (λ t. is_constant t.term) ts ≡ is_some (value_after constant_meaning z ts)
value-some [] z = refl
value-some (t ∷ ts) z = by-term t.term (λ z. value-some ts z)
  where
    by-term : (u : Term) → ((z : ℤ) → list_all (λ t. is_constant t.term) ts ≡ is_some (value_after constant_meaning z ts)) →
        (is_constant u && list_all (λ t. is_constant t.term) ts) ≡ is_some (option_and_then (λ n. value_after constant_meaning (if t.minus then z -ℤ n else z +ℤ n) ts) (constant_meaning u))
    by-term (constant n) others = others (if t.minus then z -ℤ pos n else z +ℤ pos n)
    by-term (label name) others = refl
    by-term here others = refl

constant-some : (o : Option (List Signed)) → option_map_or (list_all (λ t. is_constant t.term)) o false ≡ is_some (option_and_then (value_of constant_meaning) o)
constant-some None = refl
constant-some (Some ts) = value-some ts (pos 0)

some-terms : (o : Option (List Signed)) (z : ℤ) → option_and_then (value_of constant_meaning) o ≡ Some z → is_some o ≡ true
some-terms None z is = absurd (cc)
some-terms (Some ts) z is = refl

-- one of numbers is an expression
pub value-expression : (e : List ℕ) (z : ℤ) → HasValue e z → IsExpression e
value-expression e z is = expression-back e (some-terms (terms e) z (value-found e z is))

pub constant-is : (e : List ℕ) (z : ℤ) → HasValue e z → is_constant_expression e ≡ true
constant-is e z is = constant-some (terms e) ∙ ap is_some (value-found e z is)

value-back : (e : List ℕ) (o : Option ℤ) → sum_of e ≡ o → is_some o ≡ true → (z : ℤ) × HasValue e z
value-back e None is some = absurd (cc)
value-back e (Some z) is some = (z, value-of-found e z is)

pub constant-back : (e : List ℕ) → is_constant_expression e ≡ true → (z : ℤ) × HasValue e z
constant-back e is = value-back e (sum_of e) refl (sym (constant-some (terms e)) ∙ is)
