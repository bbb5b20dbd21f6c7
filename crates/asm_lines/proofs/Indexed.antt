-- Indexed operands by their forms are read as what they mean.
use Rattle.std.proofs.Common.{◌≡◌, ℕ, Bool, true, false, Some, None, List, [], ◌∷◌, ◌++◌, refl, ap, sym, ◌∙◌}
use Rattle.std.specs.Prelude.{option_and_then, if◌then◌else◌}
use Rattle.std.specs.List.{slice_split, list_any}
use Rattle.asm_model.specs.declared.operand.Field.TheVariants as field
use Rattle.asm_model.specs.declared.operand.Mark.TheVariants as mark
use Rattle.asm_model.specs.declared.operand.Width.{Width}
use Rattle.asm_model.specs.declared.operand.Width.TheVariants.{Narrow, Wide, Unmarked}
use Rattle.asm_model.specs.Characters.{is_comma, is_hash, is_opening}
use Rattle.asm_model.specs.Print.{in_brackets}
use Rattle.asm_model.specs.Operands.{Operand, valued, mark_of, offset_among, inside, before_bracket, bare_post, bare_or, indexed_operand, absolute_post}
use Rattle.asm_model.proofs.Commas.{any_comma, bracket_back}
use Rattle.asm_lines.specs.Expressions.{IsExpression}
use Rattle.asm_lines.specs.Operands.{width_mark, IsOffset, from_register, from_pc, IsIndexed, bare, offset, offset_in, absolute}
use Rattle.asm_lines.proofs.Expressions.{expression-without, any-more}
use Rattle.asm_lines.proofs.Valued.{no-empty, first-apart, valued-is, comma-mark}
use Rattle.asm_lines.proofs.Bare.{bare-read, bare-mark, comma-none}
use Rattle.asm_lines.proofs.Found.{offset-reads, offset-apart}

-- a text that begins with neither `#` nor a bracket
record Begins (text : List ℕ) : Type 0 where
  first : ℕ
  rest : List ℕ
  is : text ≡ first ∷ rest
  no_hash : is_hash first ≡ false
  no_opening : is_opening first ≡ false

expression-begins : (e more : List ℕ) → IsExpression e → Begins (e ++ more)
expression-begins [] more is = absurd (no-empty is)
expression-begins (c ∷ e) more is =
    record { first = c; rest = e ++ more; is = refl; no_hash = first-apart 35 c e refl is; no_opening = first-apart 91 c e refl is }

marked-begins : (w : Width) (text : List ℕ) → Begins text → Begins (width_mark w ++ text)
marked-begins Narrow text b = record { first = 60; rest = text; is = refl; no_hash = refl; no_opening = refl }
marked-begins Wide text b = record { first = 62; rest = text; is = refl; no_hash = refl; no_opening = refl }
marked-begins Unmarked text b = b

marked-comma : (w : Width) (text : List ℕ) → list_any is_comma text ≡ true → list_any is_comma (width_mark w ++ text) ≡ true
marked-comma Narrow text some = some
marked-comma Wide text some = some
marked-comma Unmarked text some = some

offset-begins : (indirect : Bool) (text : List ℕ) (o : Operand) → IsOffset indirect text o → Begins text
offset-begins indirect _ _ (from_register {e = e} {width = w} name is index its) = marked-begins w (e ++ (44 ∷ name)) (expression-begins e (44 ∷ name) is)
offset-begins indirect _ _ (from_pc {e = e} w name is named) = marked-begins w (e ++ (44 ∷ name)) (expression-begins e (44 ∷ name) is)

offset-comma : (indirect : Bool) (text : List ℕ) (o : Operand) → IsOffset indirect text o → list_any is_comma text ≡ true
offset-comma indirect _ _ (from_register {e = e} {width = w} name is index its) = marked-comma w (e ++ (44 ∷ name)) (any_comma e name)
offset-comma indirect _ _ (from_pc {e = e} w name is named) = marked-comma w (e ++ (44 ∷ name)) (any_comma e name)

-- ---- what is read

plain-among : (c : ℕ) (rest : List ℕ) → is_opening c ≡ false → bare_post (c ∷ rest) ≡ None → indexed_operand (c ∷ rest) ≡ offset_among false (slice_split is_comma (c ∷ rest))
plain-among c rest other none =
    ap (λ p. bare_or p (c ∷ rest)) none
    ∙ ap (λ (b : Bool). if b then option_and_then inside (before_bracket rest) else offset_among false (slice_split is_comma (c ∷ rest))) other

inside-is : (text : List ℕ) → bare_post (in_brackets true text) ≡ None → indexed_operand (in_brackets true text) ≡ inside text
inside-is text none = ap (λ p. bare_or p (in_brackets true text)) none ∙ ap (option_and_then inside) (bracket_back text)

inside-by : (text : List ℕ) (b : Bool) → list_any is_comma text ≡ b → inside text ≡ (if b then offset_among true (slice_split is_comma text) else valued (Some absolute_post) field.Word text)
inside-by text b is = ap (λ (b : Bool). if b then offset_among true (slice_split is_comma text) else valued (Some absolute_post) field.Word text) is

offset-plain : (text : List ℕ) (o : Operand) → IsOffset false text o → indexed_operand text ≡ Some o
offset-plain text o is =
    let b = offset-begins false text o is in
    ap indexed_operand b.is ∙ plain-among b.first b.rest b.no_opening (ap bare_post (sym b.is) ∙ offset-apart false text o is)
    ∙ ap (λ t. offset_among false (slice_split is_comma t)) (sym b.is) ∙ offset-reads false text o is

offset-inside : (text : List ℕ) (o : Operand) → IsOffset true text o → indexed_operand (in_brackets true text) ≡ Some o
offset-inside text o is = inside-is text (offset-apart true text o is) ∙ inside-by text true (offset-comma true text o is) ∙ offset-reads true text o is

absolute-is : (e : List ℕ) → IsExpression e → indexed_operand (in_brackets true e) ≡ valued (Some absolute_post) field.Word e
absolute-is e is =
    inside-is e (comma-none (in_brackets true e) (any-more is_comma e (93 ∷ []) (expression-without 44 refl e is) refl))
    ∙ inside-by e false (expression-without 44 refl e is)

pub indexed-reads : (text : List ℕ) (o : Operand) → IsIndexed text o → indexed_operand text ≡ Some o
indexed-reads text _ (bare {post = post} {meaning = i} from below is form same) = ap (λ p. bare_or p text) (bare-read post from below i is form text same)
indexed-reads text o (offset is) = offset-plain text o is
indexed-reads _ o (offset_in {text = text} is) = offset-inside text o is
indexed-reads _ _ (absolute {e = e} is) = absolute-is e is ∙ valued-is (Some absolute_post) field.Word e is

-- ---- the mark

begun-mark : (text : List ℕ) → Begins text → list_any is_comma text ≡ true → mark_of text ≡ mark.Indexed
begun-mark text b some = ap mark_of b.is ∙ comma-mark b.first b.rest b.no_hash (sym (ap (list_any is_comma) b.is) ∙ some)

pub indexed-mark : (text : List ℕ) (o : Operand) → IsIndexed text o → mark_of text ≡ mark.Indexed
indexed-mark text _ (bare {post = post} {meaning = i} from below is form same) = bare-mark post from below i is form text same
indexed-mark text o (offset is) = begun-mark text (offset-begins false text o is) (offset-comma false text o is)
indexed-mark _ o (offset_in is) = refl
indexed-mark _ _ (absolute is) = refl
