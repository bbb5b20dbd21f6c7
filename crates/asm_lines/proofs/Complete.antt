-- A word and an operand that have a shape, and a line that is an instruction, by their form are read as it.
use Rattle.std.proofs.Common.{◌≡◌, ℕ, ◌+◌, ◌*◌, ◌&&◌, Bool, true, false, Option, Some, None, List, [], ◌∷◌, ◌++◌, length, refl, ap, sym, ◌∙◌, arith, length-append, ℤ}
use Rattle.std.specs.Prelude.{option_map, option_and_then, option_to_list, if◌then◌else◌}
use Rattle.cpu_model.specs.declared.rows.Operation.{Operation}
use Rattle.cpu_model.specs.declared.rows.Operation.TheVariants.{Psh, Pul}
use Rattle.cpu_model.specs.declared.rows.Mode.{Mode}
use Rattle.cpu_model.specs.declared.rows.Mode.TheVariants.{Inherent, Immediate8, Immediate16, Direct, Indexed, Extended, Relative8, Relative16, Pair}
use Rattle.cpu_model.specs.declared.rows.Stack.{Stack}
use Rattle.cpu_model.specs.declared.instruction.Instr.{Instr}
use Rattle.cpu_model.specs.declared.instruction.Tail.{Tail}
use Rattle.cpu_model.specs.declared.instruction.Tail.TheVariants.{Empty, Byte, Word}
use Rattle.cpu_model.specs.Table.{is_pair}
use Rattle.cpu_table.specs.Spelling.{prefix, tail_bytes, spelling}
use Rattle.text_values.specs.Cuts.{first_word}
use Rattle.asm_model.specs.declared.operand.Field.{Field}
use Rattle.asm_model.specs.declared.operand.Field.TheVariants as field
use Rattle.asm_model.specs.declared.operand.Mark.{Mark}
use Rattle.asm_model.specs.declared.operand.Mark.TheVariants as mark
use Rattle.asm_model.specs.declared.operand.Wanted.{Wanted}
use Rattle.asm_model.specs.declared.operand.Wanted.TheVariants.{Nothing, Fixed, Value}
use Rattle.asm_model.specs.Characters.{same_word}
use Rattle.asm_model.specs.Mnemonics.{row_word}
use Rattle.asm_model.specs.Operands.{Operand, operand, valued, mark_of, mode_fits, operation_fits, fits, mode_operand, row_operand, mask_operand, register_mask, register_pair, pair_among, register_code, if_pair, immediate8 as read_immediate8, filled, modulo, distance}
use Rattle.asm_model.specs.Instructions.{Shape, shape_of, shape_with, shape_length, shape_instr, wanted_tail, with_tail, wanted_length, post_length, field_length, entry, line_of, operand_text, worded_instr, instr_of}
use Rattle.asm_model.proofs.Commas.{split_comma}
use Rattle.asm_model.proofs.EntryOf.{entry_matched}
use Rattle.asm_lines.specs.Operands.{IsRegisterList, IsPushOrPull, push, pull, IsOperand, inherent, immediate8, registers, immediate16, direct, extended, extended_marked, indexed, relative8, relative16, pair, IsTail, no_tail, fixed_tail, value_tail}
use Rattle.asm_lines.specs.Instructions.{IsShape, IsInstruction}
use Rattle.asm_lines.proofs.Joined.{one-part}
use Rattle.asm_lines.proofs.Lines.{first-part, operand-back}
use Rattle.asm_lines.proofs.Masks.{list-mask, list-begins, no-list}
use Rattle.asm_lines.proofs.Names.{code-name, name-comma}
use Rattle.asm_lines.proofs.SumValues.{value-found}
use Rattle.asm_lines.proofs.Valued.{valued-is, address-is, expression-mark, wide-mark, direct-mark}
use Rattle.asm_lines.proofs.Indexed.{indexed-reads, indexed-mark}

-- ---- the operand of a mode

by-mode : (op : Operation) (mode : Mode) (m : Mark) → mode_fits mode m ≡ true → operation_fits op mode m ≡ true
by-mode (Psh stack) mode m is = refl
by-mode (Pul stack) mode m is = refl
by-mode _ mode m is = is

byte-valued : (op : Operation) (e : List ℕ) → read_immediate8 op (35 ∷ e) ≡ valued None field.Byte e
byte-valued (Psh stack) e = refl
byte-valued (Pul stack) e = refl
byte-valued _ e = refl

abbrev fixed : ℕ → Operand
fixed b = operand None (Fixed b) []

mask-reads : (stack : Stack) (list : List ℕ) (mask : ℕ) → IsRegisterList stack list mask → mask_operand stack list ≡ Some (fixed mask)
mask-reads stack [] mask is = absurd (no-list stack mask is)
mask-reads stack (c ∷ text) mask is =
    ap (λ (b : Bool). if b then valued None field.Byte text else option_map fixed (register_mask stack (c ∷ text))) (list-begins stack (c ∷ text) mask is c text refl)
    ∙ ap (option_map fixed) (list-mask stack (c ∷ text) mask is)

list-reads : (op : Operation) (stack : Stack) (list : List ℕ) (mask : ℕ) → IsPushOrPull stack op → IsRegisterList stack list mask → read_immediate8 op list ≡ Some (fixed mask)
list-reads _ stack list mask push is = mask-reads stack list mask is
list-reads _ stack list mask pull is = mask-reads stack list mask is

list-fits : (op : Operation) (stack : Stack) (m : Mark) → IsPushOrPull stack op → operation_fits op Immediate8 m ≡ true
list-fits _ stack m push = refl
list-fits _ stack m pull = refl

pair-is : (source destination : List ℕ) (high low : ℕ) → register_code source ≡ Some high → register_code destination ≡ Some low → is_pair (16 * high + low) ≡ true →
    register_pair (source ++ (44 ∷ destination)) ≡ Some (16 * high + low)
pair-is source destination high low first second sized =
    ap pair_among (split_comma source destination (name-comma source (code-name source high first)))
    ∙ ap (λ parts. pair_among (source ∷ parts)) (one-part destination (name-comma destination (code-name destination low second)))
    ∙ ap (option_and_then (λ high. option_and_then (λ low. if_pair (16 * high + low)) (register_code destination))) first
    ∙ ap (option_and_then (λ low. if_pair (16 * high + low))) second
    ∙ ap (λ (b : Bool). if b then Some (16 * high + low) else None) sized

module _ (op : Operation) where
  operand-reads : (mode : Mode) (text : List ℕ) (o : Operand) → IsOperand op mode text o → mode_operand op mode text ≡ Some o
  operand-reads _ text _ inherent = refl
  operand-reads _ _ _ (immediate8 {e = e} is) = byte-valued op e ∙ valued-is None field.Byte e is
  operand-reads _ text _ (registers {mask = mask} stack which is) = list-reads op stack text mask which is
  operand-reads _ _ _ (immediate16 {e = e} is) = valued-is None field.Word e is
  operand-reads _ _ _ (direct {e = e} is) = valued-is None field.Direct e is
  operand-reads _ text _ (extended is) = address-is text is ∙ valued-is None field.Word text is
  operand-reads _ _ _ (extended_marked {e = e} is) = valued-is None field.Word e is
  operand-reads _ text o (indexed is) = indexed-reads text o is
  operand-reads _ text _ (relative8 is) = valued-is None field.Target8 text is
  operand-reads _ text _ (relative16 is) = valued-is None field.Target16 text is
  operand-reads _ _ _ (pair {high = high} {low = low} source destination first second its) = ap (option_map fixed) (pair-is source destination high low first second its)

  operand-fits : (mode : Mode) (text : List ℕ) (o : Operand) → IsOperand op mode text o → operation_fits op mode (mark_of text) ≡ true
  operand-fits _ text _ inherent = by-mode op Inherent (mark_of text) refl
  operand-fits _ _ _ (immediate8 is) = by-mode op Immediate8 mark.Immediate refl
  operand-fits _ text _ (registers stack which is) = list-fits op stack (mark_of text) which
  operand-fits _ _ _ (immediate16 is) = by-mode op Immediate16 mark.Immediate refl
  operand-fits _ _ _ (direct {e = e} is) = by-mode op Direct (mark_of (60 ∷ e)) (ap (mode_fits Direct) (direct-mark e is))
  operand-fits _ text _ (extended is) = by-mode op Extended (mark_of text) (ap (mode_fits Extended) (expression-mark text is))
  operand-fits _ _ _ (extended_marked {e = e} is) = by-mode op Extended (mark_of (62 ∷ e)) (ap (mode_fits Extended) (wide-mark e is))
  operand-fits _ text o (indexed is) = by-mode op Indexed (mark_of text) (ap (mode_fits Indexed) (indexed-mark text o is))
  operand-fits _ text _ (relative8 is) = by-mode op Relative8 (mark_of text) refl
  operand-fits _ text _ (relative16 is) = by-mode op Relative16 (mark_of text) refl
  operand-fits _ _ _ (pair source destination first second its) = by-mode op Pair (mark_of (source ++ (44 ∷ destination))) refl

-- a word and an operand of this shape are read as it
pub shape-read : (word text : List ℕ) (s : Shape) → IsShape word text s → shape_of word text ≡ Some s
unfolding row_operand
shape-read word text s p =
    let matches : (same_word (row_word p.row) word && fits p.row (mark_of text)) ≡ true =
    ap (λ b. b && fits p.row (mark_of text)) p.named ∙ operand-fits p.row.0 p.row.1 text s.operand p.operand_is in
    ap (option_and_then (λ e. option_map (shape_with e) (row_operand e.line.row text))) (entry_matched s.page s.opcode p.row word (mark_of text) p.in_map matches)
    ∙ ap (option_map (shape_with (entry s.page (line_of s.opcode p.row)))) (operand-reads p.row.0 p.row.1 text s.operand p.operand_is)

-- ---- operand bytes

tail-read : (next : ℕ) (w : Wanted) (e : List ℕ) (tail : Tail) → IsTail next w e tail → wanted_tail w next e ≡ Some tail
tail-read next _ e _ no_tail = refl
tail-read next _ e _ fixed_tail = refl
tail-read next _ e tail (value_tail {f = f} {z = z} is fills) = ap (option_and_then (filled f next)) (value-found e z is) ∙ fills

-- ---- lengths

if-length : (b : Bool) (t tail : Tail) → (if b then Some t else None) ≡ Some tail → t ≡ tail
if-length true t tail is = cc
if-length false t tail is = absurd (cc)

filled-length : (f : Field) (next : ℕ) (z : ℤ) (tail : Tail) → filled f next z ≡ Some tail → field_length f ≡ length (tail_bytes tail)
filled-length field.Byte next z tail is = ap (λ t. length (tail_bytes t)) (if-length _ _ tail is)
filled-length field.Direct next z tail is = ap (λ t. length (tail_bytes t)) (if-length _ _ tail is)
filled-length field.Offset8 next z tail is = ap (λ t. length (tail_bytes t)) (if-length _ _ tail is)
filled-length field.Target8 next z tail is = ap (λ t. length (tail_bytes t)) (if-length _ _ tail is)
filled-length field.Word next z tail is = ap (λ t. length (tail_bytes t)) (if-length _ _ tail is)
filled-length field.Offset16 next z tail is = let same : Word (modulo 65536 z) ≡ tail = cc in ap (λ t. length (tail_bytes t)) same
filled-length field.Target16 next z tail is = let same : Word (distance next z) ≡ tail = cc in ap (λ t. length (tail_bytes t)) same

value-fits : (f : Field) (next : ℕ) (value : Option ℤ) (tail : Tail) → option_and_then (filled f next) value ≡ Some tail → field_length f ≡ length (tail_bytes tail)
value-fits f next None tail is = absurd (cc)
value-fits f next (Some z) tail is = filled-length f next z tail is

wanted-fits : (w : Wanted) (next : ℕ) (text : List ℕ) (tail : Tail) → wanted_tail w next text ≡ Some tail → wanted_length w ≡ length (tail_bytes tail)
wanted-fits Nothing next text tail is = let same : Empty ≡ tail = cc in ap (λ t. length (tail_bytes t)) same
wanted-fits (Fixed b) next text tail is = let same : Byte b ≡ tail = cc in ap (λ t. length (tail_bytes t)) same
wanted-fits (Value f) next text tail is = value-fits f next _ tail is

long-list : (front : List ℕ) (c : ℕ) (rest : List ℕ) → length front + 1 + length rest ≡ length (front ++ (c ∷ rest))
long-list front c rest = omega (arith, length-append front (c ∷ rest))

post-fits : (post : Option ℕ) → post_length post ≡ length (option_to_list post)
post-fits None = refl
post-fits (Some post) = refl

-- the bytes of an instruction are as many as are known without its value
pub shape-fits : (s : Shape) (next : ℕ) (tail : Tail) → wanted_tail s.operand.wanted next s.operand.expression ≡ Some tail → shape_length s ≡ length (spelling (with_tail s tail))
shape-fits s next tail is =
    let parts : post_length s.operand.post + wanted_length s.operand.wanted ≡ length (option_to_list s.operand.post ++ tail_bytes tail) =
    ap (λ n. post_length s.operand.post + n) (wanted-fits s.operand.wanted next s.operand.expression tail is)
    ∙ ap (λ n. n + length (tail_bytes tail)) (post-fits s.operand.post) ∙ sym (length-append (option_to_list s.operand.post) (tail_bytes tail)) in
    ap (λ n. length (prefix s.page) + 1 + n) parts ∙ long-list (prefix s.page) s.opcode (option_to_list s.operand.post ++ tail_bytes tail)

-- ---- the line

module _ (line : List ℕ) (at : ℕ) (i : Instr) (p : IsInstruction line at i) where
  first-is : first_word line ≡ p.word
  first-is = ap first_word p.line_is ∙ first-part p.word (p.spaces ++ (p.operand ++ p.comment)) p.one_word p.apart

  second-is : operand_text line ≡ p.operand
  second-is = ap operand_text p.line_is ∙ operand-back p.word p.spaces p.operand p.comment p.one_word p.all_spaces p.apart p.one_operand p.comment_apart p.comment_last

  tail-is : wanted_tail p.shape.operand.wanted (at + length (spelling i)) p.shape.operand.expression ≡ Some i.tail
  tail-is = tail-read (at + length (spelling i)) p.shape.operand.wanted p.shape.operand.expression i.tail p.tail_is

  length-is : shape_length p.shape ≡ length (spelling i)
  length-is = shape-fits p.shape (at + length (spelling i)) i.tail tail-is ∙ ap (λ i. length (spelling i)) p.with_it

  filled-is : shape_instr at p.shape ≡ Some i
  filled-is =
      ap (λ n. option_map (with_tail p.shape) (wanted_tail p.shape.operand.wanted (at + n) p.shape.operand.expression)) length-is
      ∙ ap (option_map (with_tail p.shape)) tail-is ∙ ap (λ i. Some i) p.with_it

  pub line-read : instr_of line at ≡ Some i
  line-read =
      ap (λ (b : Bool). if b then worded_instr line at else None) p.shown
      ∙ ap (λ w. option_and_then (shape_instr at) (shape_of w (operand_text line))) first-is
      ∙ ap (λ t. option_and_then (shape_instr at) (shape_of p.word t)) second-is
      ∙ ap (option_and_then (shape_instr at)) (shape-read p.word p.operand p.shape p.shape_is) ∙ filled-is
