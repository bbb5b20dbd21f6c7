-- Offsets by their forms are read as what they mean.
use Rattle.std.proofs.Common.{◌≡◌, ℕ, ◌+◌, ◌*◌, ◌<◌, ◌==◌, ◌&&◌, Bool, true, false, Option, Some, None, inr, List, [], ◌∷◌, ◌++◌, map, refl, ap, sym, subst, ◌∙◌, append_assoc, arith, ℤ, pos, negsuc}
use Rattle.std.specs.Prelude.{codes, option_map, option_and_then, if◌then◌else◌}
use Rattle.std.specs.List.{slice_split, list_any, range_with_len}
use Rattle.std.specs.Char.{to_ascii_lowercase}
use Rattle.std.specs.Str.{bytes_eq, str_to_ascii_lowercase}
use Rattle.std.proofs.lemmas.Bool.{eqb-true}
use Rattle.std.proofs.lemmas.Bool.Decides.{nat_tests}
use Rattle.std.proofs.lemmas.Int.{ints}
use Rattle.asm_model.specs.declared.operand.Field.TheVariants as field
use Rattle.asm_model.specs.declared.operand.Wanted.TheVariants.{Value}
use Rattle.asm_model.specs.declared.operand.Size.{Size}
use Rattle.asm_model.specs.declared.operand.Size.TheVariants.{Five, Eight, Sixteen}
use Rattle.asm_model.specs.declared.operand.Width.{Width}
use Rattle.asm_model.specs.declared.operand.Width.TheVariants.{Narrow, Wide, Unmarked}
use Rattle.asm_model.specs.Characters.{same_word, is_comma, is_minus, is_greater}
use Rattle.asm_model.specs.Numbers.{number}
use Rattle.asm_model.specs.Expressions.{terms, terms_after, lone_value}
use Rattle.asm_model.specs.Print.{in_brackets}
use Rattle.asm_model.specs.Operands.{Operand, operand, offset_of, marked, between, index_number, indirect_bit, size_of_value, sized_offset, offset_operand, target_operand, offset_from, offset_among, bare_post}
use Rattle.asm_model.specs.Statements.{is_expression}
use Rattle.asm_model.proofs.Commas.{split_comma}
use Rattle.asm_model.proofs.Finite.{on_below}
use Rattle.asm_model.proofs.Spaces.{or_left, or_right}
use Rattle.asm_text.specs.Terms.{joined}
use Rattle.asm_text.proofs.Lone.{lone-number}
use Rattle.asm_lines.specs.Sums.{IsOneNumber, plain, minus}
use Rattle.asm_lines.specs.Expressions.{IsExpression}
use Rattle.asm_lines.specs.Operands.{width_mark, IsOffsetSize, narrow, wide, five, eight, sixteen, sized, target_post, target_field, IsOffset, from_register, from_pc}
use Rattle.asm_lines.proofs.SumValues.{unsigned}
use Rattle.asm_lines.proofs.Names.{bytes_same, same-any}
use Rattle.asm_lines.proofs.Joined.{one-part}
use Rattle.asm_lines.proofs.Expressions.{expression-without, expression-is}
use Rattle.asm_lines.proofs.Valued.{no-empty, first-apart, valued-is}
use Rattle.asm_lines.proofs.Bare.{is_bare_front, without_opening, lower-mark, front-none}

-- ---- one number

first-of : (o : Bool) (c : ℕ) (text : List ℕ) → is_minus c ≡ o → terms (c ∷ text) ≡ (if o then terms_after 45 text else terms_after 43 (c ∷ text))
first-of o c text is = ap (λ (b : Bool). if b then terms_after 45 text else terms_after 43 (c ∷ text)) is

zero-plus : (n : ℕ) → joined (pos 0) false (pos n) ≡ pos n
zero-plus n = omega (arith, ints)

plain-lone : (text : List ℕ) (n : ℕ) → number text ≡ Some n → option_and_then lone_value (terms text) ≡ Some (pos n)
plain-lone [] n is = absurd (cc)
plain-lone (c ∷ text) n is =
    let first : is_minus c ≡ false = or_right (c == 43) (is_minus c) (or_left _ _ (unsigned (c ∷ text) n is)) in
    ap (option_and_then lone_value) (first-of false c text first) ∙ lone-number 43 (c ∷ text)
    ∙ ap (λ o. option_map (joined (pos 0) false) (option_map pos o)) is ∙ ap (λ z. Some z) (zero-plus n)

pub one-lone : (e : List ℕ) (z : ℤ) → IsOneNumber e z → option_and_then lone_value (terms e) ≡ Some z
one-lone _ _ (plain {text = text} {n = n} is) = plain-lone text n is
one-lone _ _ (minus {text = text} {n = n} is) = lone-number 45 text ∙ ap (λ o. option_map (joined (pos 0) true) (option_map pos o)) is

lone-step : (away : Bool) (text : List ℕ) (z : ℤ) (o : Option ℕ) → number text ≡ o → option_map (joined (pos 0) away) (option_map pos o) ≡ Some z →
    (n : ℕ) × (number text ≡ Some n) × (joined (pos 0) away (pos n) ≡ z)
lone-step away text z None is whole = absurd (cc)
lone-step away text z (Some n) is whole = (n, is, cc)

pub lone-one : (e : List ℕ) (z : ℤ) → option_and_then lone_value (terms e) ≡ Some z → IsOneNumber e z
lone-one [] z is = absurd (cc)
lone-one (c ∷ text) z is = by-minus (is_minus c) refl
  where
    by-minus : (b : Bool) → is_minus c ≡ b → IsOneNumber (c ∷ text) z
    by-minus true first =
        let found = lone-step true text z (number text) refl (sym (ap (option_and_then lone_value) (first-of true c text first) ∙ lone-number 45 text) ∙ is) in
        subst (λ (d : ℕ). IsOneNumber (d ∷ text) z) (sym (eqb-true c 45 first)) (subst (IsOneNumber (45 ∷ text)) found.2 (minus found.1))
    by-minus false first =
        let found = lone-step false (c ∷ text) z (number (c ∷ text)) refl (sym (ap (option_and_then lone_value) (first-of false c text first) ∙ lone-number 43 (c ∷ text)) ∙ is) in
        subst (IsOneNumber (c ∷ text)) (sym (zero-plus found.0) ∙ found.2) (plain found.1)

-- ---- sizes

five-size : (indirect : Bool) (z : ℤ) → indirect ≡ false → between (negsuc 15) (pos 15) z ≡ true → size_of_value indirect (Some z) ≡ Five z
five-size indirect z direct is = simp (direct, is)

eight-size : (indirect : Bool) (z : ℤ) → (indirect ≡ false → between (negsuc 15) (pos 15) z ≡ false) → between (negsuc 127) (pos 127) z ≡ true → size_of_value indirect (Some z) ≡ Eight
eight-size true z other is = simp is
eight-size false z other is = let out = other refl in simp (out, is)

no-five : (z : ℤ) → between (negsuc 127) (pos 127) z ≡ false → between (negsuc 15) (pos 15) z ≡ false
no-five (pos n) is = grind (arith, nat_tests)
no-five (negsuc n) is = grind (arith, nat_tests)

sixteen-size : (indirect : Bool) (z : ℤ) → between (negsuc 127) (pos 127) z ≡ false → size_of_value indirect (Some z) ≡ Sixteen
sixteen-size true z is = simp is
sixteen-size false z is = let out = no-five z is in simp (out, is)

sixteen-by : (indirect : Bool) (e : List ℕ) (o : Option ℤ) → option_and_then lone_value (terms e) ≡ o → ((z : ℤ) → IsOneNumber e z → between (negsuc 127) (pos 127) z ≡ false) →
    size_of_value indirect o ≡ Sixteen
sixteen-by indirect e None is out = refl
sixteen-by indirect e (Some z) is out = sixteen-size indirect z (out z (lone-one e z is))

size-is : (indirect : Bool) (e : List ℕ) (w : Width) (size : Size) (r : ℕ) → IsOffsetSize indirect e w size → offset_operand w indirect r e ≡ sized_offset size indirect r e
size-is indirect e _ _ r narrow = refl
size-is indirect e _ _ r wide = refl
size-is indirect e _ _ r (five {z = z} is direct within) =
    ap (λ s. sized_offset s indirect r e) (ap (size_of_value indirect) (one-lone e z is) ∙ five-size indirect z direct within)
size-is indirect e _ _ r (eight {z = z} is other within) =
    ap (λ s. sized_offset s indirect r e) (ap (size_of_value indirect) (one-lone e z is) ∙ eight-size indirect z other within)
size-is indirect e _ _ r (sixteen out) =
    ap (λ s. sized_offset s indirect r e) (sixteen-by indirect e (option_and_then lone_value (terms e)) refl out)

sized-reads : (indirect : Bool) (r : ℕ) (e : List ℕ) (size : Size) → IsExpression e → sized_offset size indirect r e ≡ Some (sized size indirect r e)
sized-reads indirect r e (Five y) is = refl
sized-reads indirect r e Eight is = valued-is (Some (136 + 32 * r + indirect_bit indirect)) field.Offset8 e is
sized-reads indirect r e Sixteen is = valued-is (Some (137 + 32 * r + indirect_bit indirect)) field.Offset16 e is

-- a target from the next instruction
abbrev targeted : Width → Bool → List ℕ → Operand
targeted w indirect e = operand (Some (target_post w + indirect_bit indirect)) (Value (target_field w)) e

target-reads : (indirect : Bool) (w : Width) (e : List ℕ) → IsExpression e → target_operand w indirect e ≡ Some (targeted w indirect e)
target-reads indirect Narrow e is = valued-is (Some (140 + indirect_bit indirect)) field.Target8 e is
target-reads indirect Wide e is = valued-is (Some (141 + indirect_bit indirect)) field.Target16 e is
target-reads indirect Unmarked e is = valued-is (Some (141 + indirect_bit indirect)) field.Target16 e is

-- ---- bases

-- the name of an index register, or PCR
pub record IsBase (name : List ℕ) : Type 0 where
  pub word : List ℕ
  pub is : same_word word name ≡ true
  pub free : list_any is_comma word ≡ false

base-comma : (name : List ℕ) → IsBase name → list_any is_comma name ≡ false
base-comma name b = same-any 44 (omega arith) b.word name b.is ∙ b.free

not-pcr : (word name : List ℕ) → same_word word name ≡ true → same_word (codes "PCR") word ≡ false → same_word (codes "PCR") name ≡ false
not-pcr word name is other = ap (bytes_eq (str_to_ascii_lowercase (codes "PCR"))) (sym (bytes_same (str_to_ascii_lowercase word) (str_to_ascii_lowercase name) is)) ∙ other

index-base : (name : List ℕ) (r : ℕ) → index_number name ≡ Some r → IsBase name × (same_word (codes "PCR") name ≡ false)
index-base name r is = by-x (same_word (codes "X") name) refl
  where
    base : (word : List ℕ) → same_word word name ≡ true → list_any is_comma word ≡ false → same_word (codes "PCR") word ≡ false → IsBase name × (same_word (codes "PCR") name ≡ false)
    base word same free other = (record { word = word; is = same; free = free }, not-pcr word name same other)

    by-s : same_word (codes "X") name ≡ false → same_word (codes "Y") name ≡ false → same_word (codes "U") name ≡ false → (b : Bool) → same_word (codes "S") name ≡ b →
        IsBase name × (same_word (codes "PCR") name ≡ false)
    by-s x y u true s = base (codes "S") s refl refl
    by-s x y u false s = let none : None ≡ Some r = simp (x, y, u, s) at is in absurd (cc)

    by-u : same_word (codes "X") name ≡ false → same_word (codes "Y") name ≡ false → (b : Bool) → same_word (codes "U") name ≡ b → IsBase name × (same_word (codes "PCR") name ≡ false)
    by-u x y true u = base (codes "U") u refl refl
    by-u x y false u = by-s x y u (same_word (codes "S") name) refl

    by-y : same_word (codes "X") name ≡ false → (b : Bool) → same_word (codes "Y") name ≡ b → IsBase name × (same_word (codes "PCR") name ≡ false)
    by-y x true y = base (codes "Y") y refl refl
    by-y x false y = by-u x y (same_word (codes "U") name) refl

    by-x : (b : Bool) → same_word (codes "X") name ≡ b → IsBase name × (same_word (codes "PCR") name ≡ false)
    by-x true x = base (codes "X") x refl refl
    by-x false x = by-y x (same_word (codes "Y") name) refl

-- ---- an offset and a base

offset-marked : (w : Width) (e : List ℕ) → IsExpression e → marked (width_mark w ++ e) ≡ offset_of w e
offset-marked Narrow e is = refl
offset-marked Wide e is = refl
offset-marked Unmarked [] is = refl
offset-marked Unmarked (c ∷ e) is =
    ap (λ (b : Bool). if b then offset_of Narrow e else (if is_greater c then offset_of Wide e else offset_of Unmarked (c ∷ e))) (first-apart 60 c e refl is)
    ∙ ap (λ (b : Bool). if b then offset_of Wide e else offset_of Unmarked (c ∷ e)) (first-apart 62 c e refl is)

offset-comma : (w : Width) (e : List ℕ) → IsExpression e → list_any is_comma (width_mark w ++ e) ≡ false
offset-comma Narrow e is = expression-without 44 refl e is
offset-comma Wide e is = expression-without 44 refl e is
offset-comma Unmarked e is = expression-without 44 refl e is

abbrev offset_text : Width → List ℕ → List ℕ → List ℕ
offset_text w e name = width_mark w ++ (e ++ (44 ∷ name))

text-parts : (w : Width) (e name : List ℕ) → offset_text w e name ≡ (width_mark w ++ e) ++ (44 ∷ name)
text-parts Narrow e name = refl
text-parts Wide e name = refl
text-parts Unmarked e name = refl

offset-split : (w : Width) (e name : List ℕ) → IsExpression e → IsBase name → slice_split is_comma (offset_text w e name) ≡ (width_mark w ++ e) ∷ name ∷ []
offset-split w e name is base =
    ap (slice_split is_comma) (text-parts w e name) ∙ split_comma (width_mark w ++ e) name (offset-comma w e is)
    ∙ ap (λ parts. (width_mark w ++ e) ∷ parts) (one-part name (base-comma name base))

module _ (indirect : Bool) (w : Width) (e name : List ℕ) (is : IsExpression e) where
  from-base : IsBase name → (b : Bool) → same_word (codes "PCR") name ≡ b →
      offset_among indirect (slice_split is_comma (offset_text w e name)) ≡ (if b then target_operand w indirect e else option_and_then (λ r. offset_operand w indirect r e) (index_number name))
  from-base base b named =
      ap (offset_among indirect) (offset-split w e name is base) ∙ ap (λ o. offset_from indirect o name) (offset-marked w e is)
      ∙ ap (λ (b : Bool). if b then target_operand w indirect e else option_and_then (λ r. offset_operand w indirect r e) (index_number name)) named

  register-among : (size : Size) (r : ℕ) → index_number name ≡ Some r → IsOffsetSize indirect e w size →
      offset_among indirect (slice_split is_comma (offset_text w e name)) ≡ Some (sized size indirect r e)
  register-among size r index its =
      let base = index-base name r index in
      from-base base.0 false base.1 ∙ ap (option_and_then (λ r. offset_operand w indirect r e)) index ∙ size-is indirect e w size r its ∙ sized-reads indirect r e size is

  pc-among : same_word (codes "PCR") name ≡ true → offset_among indirect (slice_split is_comma (offset_text w e name)) ≡ Some (targeted w indirect e)
  pc-among named = from-base (record { word = codes "PCR"; is = named; free = refl }) true named ∙ target-reads indirect w e is

-- an offset by its form is read as it
pub offset-reads : (indirect : Bool) (text : List ℕ) (o : Operand) → IsOffset indirect text o → offset_among indirect (slice_split is_comma text) ≡ Some o
offset-reads indirect _ _ (from_register {e = e} {width = w} {size = size} {r = r} name is index its) = register-among indirect w e name is size r index its
offset-reads indirect _ _ (from_pc {e = e} w name is named) = pc-among indirect w e name is named

-- ---- an offset is not an operand without a number

front-checked : map (λ c. is_bare_front (to_ascii_lowercase c ∷ []) && is_expression (c ∷ [])) (range_with_len 0 128) ≡ map (λ c. false) (range_with_len 0 128)
front-checked = refl

front-below : (c : ℕ) → is_bare_front (to_ascii_lowercase c ∷ []) ≡ true → c < 128
front-below c is = grind (arith, nat_tests)

one-front : (c : ℕ) → IsExpression (c ∷ []) → is_bare_front (to_ascii_lowercase c ∷ []) ≡ false
one-front c is = by-front (is_bare_front (to_ascii_lowercase c ∷ [])) refl
  where
    by-front : (b : Bool) → is_bare_front (to_ascii_lowercase c ∷ []) ≡ b → is_bare_front (to_ascii_lowercase c ∷ []) ≡ false
    by-front true front =
        let never : (is_bare_front (to_ascii_lowercase c ∷ []) && is_expression (c ∷ [])) ≡ false =
        on_below 128 (λ c. is_bare_front (to_ascii_lowercase c ∷ []) && is_expression (c ∷ [])) (λ c. false) front-checked c (front-below c front) in
        let both : true ≡ false = sym (expression-is (c ∷ []) is) ∙ ap (λ b. b && is_expression (c ∷ [])) (sym front) ∙ never in
        absurd (cc)
    by-front false other = other

expression-front : (e : List ℕ) → IsExpression e → is_bare_front (str_to_ascii_lowercase e) ≡ false
expression-front [] is = absurd (no-empty is)
expression-front (c ∷ []) is = one-front c is
expression-front (c ∷ d ∷ e) is = refl

marked-front : (w : Width) (e : List ℕ) → IsExpression e → is_bare_front (str_to_ascii_lowercase (width_mark w ++ e)) ≡ false
marked-front Narrow [] is = refl
marked-front Narrow (c ∷ e) is = refl
marked-front Wide [] is = refl
marked-front Wide (c ∷ e) is = refl
marked-front Unmarked e is = expression-front e is

-- no bracket is before it
marked-opening : (w : Width) (e : List ℕ) → IsExpression e → without_opening (str_to_ascii_lowercase (width_mark w ++ e)) ≡ str_to_ascii_lowercase (width_mark w ++ e)
marked-opening Narrow e is = refl
marked-opening Wide e is = refl
marked-opening Unmarked [] is = refl
marked-opening Unmarked (c ∷ e) is =
    ap (λ (b : Bool). if b then str_to_ascii_lowercase e else str_to_ascii_lowercase (c ∷ e)) (lower-mark 91 c (inr refl) ∙ first-apart 91 c e refl is)

offset-none : (indirect : Bool) (w : Width) (e name : List ℕ) → IsExpression e → bare_post (in_brackets indirect (offset_text w e name)) ≡ None
offset-none false w e name is =
    ap bare_post (text-parts w e name)
    ∙ front-none (width_mark w ++ e) name (offset-comma w e is) (ap is_bare_front (marked-opening w e is) ∙ marked-front w e is)
offset-none true w e name is =
    ap (λ text. bare_post (91 ∷ text ++ (93 ∷ []))) (text-parts w e name)
    ∙ ap (λ text. bare_post (91 ∷ text)) (append_assoc (width_mark w ++ e) (44 ∷ name) (93 ∷ []))
    ∙ front-none (91 ∷ (width_mark w ++ e)) (name ++ (93 ∷ [])) (offset-comma w e is) (marked-front w e is)

pub offset-apart : (indirect : Bool) (text : List ℕ) (o : Operand) → IsOffset indirect text o → bare_post (in_brackets indirect text) ≡ None
offset-apart indirect _ _ (from_register {e = e} {width = w} name is index its) = offset-none indirect w e name is
offset-apart indirect _ _ (from_pc {e = e} w name is named) = offset-none indirect w e name is
