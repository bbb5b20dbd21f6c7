-- What is read as an indexed operand is one by its form.
use Rattle.std.proofs.Common.{◌≡◌, ℕ, ◌&&◌, not, Bool, true, false, Option, Some, None, List, [], ◌∷◌, ◌++◌, refl, ap, sym, subst, ◌∙◌, append_assoc, ℤ, pos, negsuc}
use Rattle.std.specs.Prelude.{codes, option_and_then, if◌then◌else◌}
use Rattle.std.specs.List.{slice_split, list_any}
use Rattle.std.proofs.lemmas.Bool.{eqb-true}
use Rattle.asm_model.specs.declared.operand.Field.{Field}
use Rattle.asm_model.specs.declared.operand.Field.TheVariants as field
use Rattle.asm_model.specs.declared.operand.Wanted.TheVariants.{Nothing, Value}
use Rattle.asm_model.specs.declared.operand.Size.{Size}
use Rattle.asm_model.specs.declared.operand.Size.TheVariants.{Five, Eight, Sixteen}
use Rattle.asm_model.specs.declared.operand.Width.{Width}
use Rattle.asm_model.specs.declared.operand.Width.TheVariants.{Narrow, Wide, Unmarked}
use Rattle.asm_model.specs.Characters.{same_word, is_comma, is_opening, is_less, is_greater}
use Rattle.asm_model.specs.Expressions.{terms, lone_value}
use Rattle.asm_model.specs.Print.{in_brackets}
use Rattle.asm_model.specs.Operands.{Operand, operand, offset_of, marked, valued, between, index_number, size_of_value, sized_offset, offset_operand, target_operand, offset_from, offset_among, before_bracket, inside, numbered, bare_post, bare_or, indexed_operand, absolute_post}
use Rattle.asm_model.specs.Statements.{is_expression}
use Rattle.asm_lines.specs.Sums.{IsOneNumber, one}
use Rattle.asm_lines.specs.Expressions.{IsExpression}
use Rattle.asm_lines.specs.Operands.{width_mark, IsOffsetSize, narrow, wide, five, eight, sixteen, sized, IsOffset, from_register, from_pc, IsIndexed, bare, offset, offset_in, absolute}
use Rattle.asm_lines.proofs.Expressions.{expression-back, value-expression}
use Rattle.asm_lines.proofs.Bare.{bare-back}
use Rattle.asm_lines.proofs.Found.{one-lone, lone-one}
use Rattle.asm_lines.proofs.Lists.{joined-back, before-back}

-- ---- an expression

valued-step : (post : Option ℕ) (f : Field) (e : List ℕ) (o : Operand) (b : Bool) → is_expression e ≡ b → (if b then Some (operand post (Value f) e) else None) ≡ Some o →
    IsExpression e × (operand post (Value f) e ≡ o)
valued-step post f e o true some is = (expression-back e some, cc)
valued-step post f e o false some is = absurd (cc)

-- what is read with the value of a text is an operand of an expression
pub valued-back : (post : Option ℕ) (f : Field) (e : List ℕ) (o : Operand) → valued post f e ≡ Some o → IsExpression e × (operand post (Value f) e ≡ o)
valued-back post f e o is = valued-step post f e o (is_expression e) refl is

-- ---- the size of an offset

module _ (indirect : Bool) (e : List ℕ) where
  lone-none : option_and_then lone_value (terms e) ≡ None → (z : ℤ) → IsOneNumber e z → between (negsuc 127) (pos 127) z ≡ false
  lone-none none z is = let some = one-lone e z is in absurd (cc)

  only-lone : (z : ℤ) → option_and_then lone_value (terms e) ≡ Some z → between (negsuc 127) (pos 127) z ≡ false → (y : ℤ) → IsOneNumber e y → between (negsuc 127) (pos 127) y ≡ false
  only-lone z is out y other =
      let some = one-lone e y other in
      let same : z ≡ y = cc in
      subst (λ (y : ℤ). between (negsuc 127) (pos 127) y ≡ false) same out

  sized-eight : (z : ℤ) → option_and_then lone_value (terms e) ≡ Some z → (indirect ≡ false → between (negsuc 15) (pos 15) z ≡ false) → (b : Bool) → between (negsuc 127) (pos 127) z ≡ b →
      IsOffsetSize indirect e Unmarked (if b then Eight else Sixteen)
  sized-eight z is other true within = eight (lone-one e z is) other within
  sized-eight z is other false out = sixteen (only-lone z is out)

  sized-some : (z : ℤ) → option_and_then lone_value (terms e) ≡ Some z → (d : Bool) → indirect ≡ d → (b : Bool) → between (negsuc 15) (pos 15) z ≡ b →
      IsOffsetSize indirect e Unmarked (if not d && b then Five z else (if between (negsuc 127) (pos 127) z then Eight else Sixteen))
  sized-some z is true direct b within =
      sized-eight z is (λ no. let other : true ≡ false = sym direct ∙ no in absurd (cc)) (between (negsuc 127) (pos 127) z) refl
  sized-some z is false direct true within = five (lone-one e z is) direct within
  sized-some z is false direct false within = sized-eight z is (λ _. within) (between (negsuc 127) (pos 127) z) refl

  sized-by : (o : Option ℤ) → option_and_then lone_value (terms e) ≡ o → IsOffsetSize indirect e Unmarked (size_of_value indirect o)
  sized-by None is = sixteen (lone-none is)
  sized-by (Some z) is = sized-some z is indirect refl (between (negsuc 15) (pos 15) z) refl

  -- the size that an offset is read with
  abbrev size_of : Width → Size
  size_of Narrow = Eight
  size_of Wide = Sixteen
  size_of Unmarked = size_of_value indirect (option_and_then lone_value (terms e))

  pub sized-back : (w : Width) → IsOffsetSize indirect e w (size_of w)
  sized-back Narrow = narrow
  sized-back Wide = wide
  sized-back Unmarked = sized-by (option_and_then lone_value (terms e)) refl

  size-read : (w : Width) (r : ℕ) → offset_operand w indirect r e ≡ sized_offset (size_of w) indirect r e
  size-read Narrow r = refl
  size-read Wide r = refl
  size-read Unmarked r = refl

five-expression : (indirect : Bool) (e : List ℕ) (w : Width) (size : Size) → IsOffsetSize indirect e w size → (y : ℤ) → size ≡ Five y → IsExpression e
five-expression indirect e _ _ narrow y same = absurd (cc)
five-expression indirect e _ _ wide y same = absurd (cc)
five-expression indirect e _ _ (five {z = z} is direct within) y same = value-expression e z (one is)
five-expression indirect e _ _ (eight is other within) y same = absurd (cc)
five-expression indirect e _ _ (sixteen out) y same = absurd (cc)

-- ---- an offset and a base

module _ (indirect : Bool) (w : Width) (e name : List ℕ) (o : Operand) where
  -- the operand is an offset by its form
  abbrev Formed : Type 0
  Formed = IsOffset indirect (width_mark w ++ (e ++ (44 ∷ name))) o

  sized-formed : (size : Size) (r : ℕ) → IsOffsetSize indirect e w size → index_number name ≡ Some r → sized_offset size indirect r e ≡ Some o → Formed
  sized-formed (Five y) r its index read =
      let same : sized (Five y) indirect r e ≡ o = cc in
      subst (IsOffset indirect (width_mark w ++ (e ++ (44 ∷ name)))) same (from_register name (five-expression indirect e w (Five y) its y refl) index its)
  sized-formed Eight r its index read =
      let back = valued-back _ field.Offset8 e o read in subst (IsOffset indirect (width_mark w ++ (e ++ (44 ∷ name)))) back.1 (from_register name back.0 index its)
  sized-formed Sixteen r its index read =
      let back = valued-back _ field.Offset16 e o read in subst (IsOffset indirect (width_mark w ++ (e ++ (44 ∷ name)))) back.1 (from_register name back.0 index its)

  target-formed : (v : Width) → same_word (codes "PCR") name ≡ true → target_operand v indirect e ≡ Some o → IsOffset indirect (width_mark v ++ (e ++ (44 ∷ name))) o
  target-formed Narrow named read =
      let back = valued-back _ field.Target8 e o read in subst (IsOffset indirect (60 ∷ (e ++ (44 ∷ name)))) back.1 (from_pc Narrow name back.0 named)
  target-formed Wide named read =
      let back = valued-back _ field.Target16 e o read in subst (IsOffset indirect (62 ∷ (e ++ (44 ∷ name)))) back.1 (from_pc Wide name back.0 named)
  target-formed Unmarked named read =
      let back = valued-back _ field.Target16 e o read in subst (IsOffset indirect (e ++ (44 ∷ name))) back.1 (from_pc Unmarked name back.0 named)

  index-formed : (r : Option ℕ) → index_number name ≡ r → option_and_then (λ r. offset_operand w indirect r e) r ≡ Some o → Formed
  index-formed None is read = absurd (cc)
  index-formed (Some r) is read = sized-formed (size_of indirect e w) r (sized-back indirect e w) is (sym (size-read indirect e w r) ∙ read)

  base-formed : (b : Bool) → same_word (codes "PCR") name ≡ b →
      (if b then target_operand w indirect e else option_and_then (λ r. offset_operand w indirect r e) (index_number name)) ≡ Some o → Formed
  base-formed true is read = target-formed w is read
  base-formed false is read = index-formed (index_number name) refl read

-- an offset is its mark and its expression
marked-text : (front : List ℕ) → front ≡ width_mark (marked front).width ++ (marked front).expression
marked-text [] = refl
marked-text (c ∷ text) = by-less (is_less c) refl
  where
    by-greater : is_less c ≡ false → (b : Bool) → is_greater c ≡ b → c ∷ text ≡ width_mark (marked (c ∷ text)).width ++ (marked (c ∷ text)).expression
    by-greater other true is =
        let m : marked (c ∷ text) ≡ offset_of Wide text = simp (other, is) in
        ap (λ d. d ∷ text) (eqb-true c 62 is) ∙ sym (ap (λ o. width_mark o.width ++ o.expression) m)
    by-greater other false is = let m : marked (c ∷ text) ≡ offset_of Unmarked (c ∷ text) = simp (other, is) in sym (ap (λ o. width_mark o.width ++ o.expression) m)

    by-less : (b : Bool) → is_less c ≡ b → c ∷ text ≡ width_mark (marked (c ∷ text)).width ++ (marked (c ∷ text)).expression
    by-less true is =
        let m : marked (c ∷ text) ≡ offset_of Narrow text = simp is in
        ap (λ d. d ∷ text) (eqb-true c 60 is) ∙ sym (ap (λ o. width_mark o.width ++ o.expression) m)
    by-less false is = by-greater is (is_greater c) refl

module _ (indirect : Bool) (text : List ℕ) (o : Operand) where
  two-formed : (first name : List ℕ) → slice_split is_comma text ≡ first ∷ name ∷ [] → offset_from indirect (marked first) name ≡ Some o → IsOffset indirect text o
  two-formed first name is read =
      let w : Width = (marked first).width in
      let e : List ℕ = (marked first).expression in
      let same : width_mark w ++ (e ++ (44 ∷ name)) ≡ text =
      sym (append_assoc (width_mark w) e (44 ∷ name)) ∙ ap (λ front. front ++ (44 ∷ name)) (sym (marked-text first)) ∙ sym (joined-back text (first ∷ name ∷ []) is) in
      subst (λ (t : List ℕ). IsOffset indirect t o) same (base-formed indirect w e name o (same_word (codes "PCR") name) refl read)

  among-formed : (parts : List (List ℕ)) → slice_split is_comma text ≡ parts → offset_among indirect parts ≡ Some o → IsOffset indirect text o
  among-formed [] is read = absurd (cc)
  among-formed (first ∷ []) is read = absurd (cc)
  among-formed (first ∷ name ∷ []) is read = two-formed first name is read
  among-formed (first ∷ name ∷ third ∷ more) is read = absurd (cc)

-- ---- indexed operands

inside-formed : (inner : List ℕ) (o : Operand) (b : Bool) → list_any is_comma inner ≡ b →
    (if b then offset_among true (slice_split is_comma inner) else valued (Some absolute_post) field.Word inner) ≡ Some o → IsIndexed (in_brackets true inner) o
inside-formed inner o true some read = offset_in (among-formed true inner o (slice_split is_comma inner) refl read)
inside-formed inner o false none read =
    let back = valued-back (Some absolute_post) field.Word inner o read in subst (IsIndexed (in_brackets true inner)) back.1 (absolute back.0)

bracket-formed : (text : List ℕ) (o : Operand) (inner : Option (List ℕ)) → before_bracket text ≡ inner → option_and_then inside inner ≡ Some o → IsIndexed (91 ∷ text) o
bracket-formed text o None is read = absurd (cc)
bracket-formed text o (Some inner) is read =
    subst (λ (t : List ℕ). IsIndexed t o) (ap (λ rest. 91 ∷ rest) (sym (before-back text inner is))) (inside-formed inner o (list_any is_comma inner) refl read)

numbered-formed : (text : List ℕ) (o : Operand) → numbered text ≡ Some o → IsIndexed text o
numbered-formed [] o read = absurd (cc)
numbered-formed (c ∷ text) o read = by-opening (is_opening c) refl read
  where
    by-opening : (b : Bool) → is_opening c ≡ b → (if b then option_and_then inside (before_bracket text) else offset_among false (slice_split is_comma (c ∷ text))) ≡ Some o →
        IsIndexed (c ∷ text) o
    by-opening true is whole =
        subst (λ (d : ℕ). IsIndexed (d ∷ text) o) (sym (eqb-true c 91 is)) (bracket-formed text o (before_bracket text) refl whole)
    by-opening false is whole = offset (among-formed false (c ∷ text) o (slice_split is_comma (c ∷ text)) refl whole)

by-post : (text : List ℕ) (o : Operand) (post : Option ℕ) → bare_post text ≡ post → bare_or post text ≡ Some o → IsIndexed text o
by-post text o (Some post) is read =
    let b = bare-back text post is in
    let same : operand (Some post) Nothing [] ≡ o = cc in
    subst (IsIndexed text) same (bare b.from b.below b.is b.form b.same)
by-post text o None is read = numbered-formed text o read

pub indexed-formed : (text : List ℕ) (o : Operand) → indexed_operand text ≡ Some o → IsIndexed text o
indexed-formed text o read = by-post text o (bare_post text) refl read
