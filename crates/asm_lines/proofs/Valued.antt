-- Operands with an expression: their marks, and what they are read as.
use Rattle.std.proofs.Common.{◌≡◌, ℕ, ◌==◌, ◌||◌, Bool, true, false, Option, Some, None, List, [], ◌∷◌, refl, ap, ◌∙◌}
use Rattle.std.specs.Prelude.{if◌then◌else◌}
use Rattle.std.specs.List.{list_any}
use Rattle.asm_model.specs.declared.operand.Field.{Field}
use Rattle.asm_model.specs.declared.operand.Field.TheVariants as field
use Rattle.asm_model.specs.declared.operand.Wanted.TheVariants.{Value}
use Rattle.asm_model.specs.declared.operand.Mark.{Mark}
use Rattle.asm_model.specs.declared.operand.Mark.TheVariants as mark
use Rattle.asm_model.specs.Characters.{is_comma, is_hash, is_opening, is_less}
use Rattle.asm_model.specs.Operands.{operand, valued, mark_of, address_operand}
use Rattle.asm_model.proofs.Spaces.{or_left}
use Rattle.asm_lines.specs.Expressions.{IsExpression}
use Rattle.asm_lines.proofs.Bytes.{is_expression_byte}
use Rattle.asm_lines.proofs.Expressions.{expression-without, expression-is}

-- ---- the first byte of an expression

pub no-empty : IsExpression [] → ⊥
no-empty is = let some = expression-is [] is in absurd (cc)

pub first-apart : (k c : ℕ) (e : List ℕ) → is_expression_byte k ≡ false → IsExpression (c ∷ e) → (c == k) ≡ false
first-apart k c e none is = or_left (c == k) (list_any (λ c. c == k) e) (expression-without k none (c ∷ e) is)

-- ---- what is read of an expression

pub valued-is : (post : Option ℕ) (f : Field) (e : List ℕ) → IsExpression e → valued post f e ≡ Some (operand post (Value f) e)
valued-is post f e is = ap (λ (b : Bool). if b then Some (operand post (Value f) e) else None) (expression-is e is)

pub address-is : (e : List ℕ) → IsExpression e → address_operand e ≡ valued None field.Word e
address-is [] is = absurd (no-empty is)
address-is (c ∷ e) is = ap (λ (b : Bool). if b then valued None field.Word e else valued None field.Word (c ∷ e)) (first-apart 62 c e refl is)

-- ---- marks

abbrev marked_as : Bool → Bool → Bool → Mark
marked_as hash index less =
    if hash then mark.Immediate else (if index then mark.Indexed else (if less then mark.Direct else mark.Address))

pub expression-mark : (e : List ℕ) → IsExpression e → mark_of e ≡ mark.Address
expression-mark [] is = absurd (no-empty is)
expression-mark (c ∷ e) is =
    ap (λ b. marked_as b (is_opening c || list_any is_comma (c ∷ e)) (is_less c)) (first-apart 35 c e refl is)
    ∙ ap (λ b. marked_as false (b || list_any is_comma (c ∷ e)) (is_less c)) (first-apart 91 c e refl is)
    ∙ ap (λ b. marked_as false b (is_less c)) (expression-without 44 refl (c ∷ e) is)
    ∙ ap (λ b. marked_as false false b) (first-apart 60 c e refl is)

pub wide-mark : (e : List ℕ) → IsExpression e → mark_of (62 ∷ e) ≡ mark.Address
wide-mark e is = ap (λ b. marked_as false b false) (expression-without 44 refl e is)

pub direct-mark : (e : List ℕ) → IsExpression e → mark_of (60 ∷ e) ≡ mark.Direct
direct-mark e is = ap (λ b. marked_as false b true) (expression-without 44 refl e is)

-- a text with a comma that does not begin with `#` is an indexed one
pub comma-mark : (c : ℕ) (text : List ℕ) → is_hash c ≡ false → list_any is_comma (c ∷ text) ≡ true → mark_of (c ∷ text) ≡ mark.Indexed
comma-mark c text other some =
    ap (λ b. marked_as b (is_opening c || list_any is_comma (c ∷ text)) (is_less c)) other
    ∙ ap (λ b. marked_as false (is_opening c || b) (is_less c)) some ∙ by-opening (is_opening c)
  where
    by-opening : (b : Bool) → marked_as false (b || true) (is_less c) ≡ mark.Indexed
    by-opening true = refl
    by-opening false = refl
