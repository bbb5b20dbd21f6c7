-- A word and an operand that are read as a shape, and a line that is read as an instruction, are it by their form.
use Rattle.std.proofs.Common.{◌≡◌, ℕ, ◌+◌, ◌*◌, ◌==◌, Bool, true, false, Option, Some, None, List, [], ◌∷◌, ◌++◌, refl, ap, sym, subst, ◌∙◌, ℤ}
use Rattle.std.specs.Prelude.{option_map, option_and_then, if◌then◌else◌}
use Rattle.std.specs.List.{slice_split, list_all}
use Rattle.std.proofs.lemmas.Bool.{and_parts, eqb-true}
use Rattle.cpu_model.specs.declared.rows.Operation.{Operation}
use Rattle.cpu_model.specs.declared.rows.Operation.TheVariants.{Psh, Pul}
use Rattle.cpu_model.specs.declared.rows.Mode.{Mode}
use Rattle.cpu_model.specs.declared.rows.Mode.TheVariants.{Inherent, Immediate8, Immediate16, Direct, Indexed, Extended, Relative8, Relative16, Pair}
use Rattle.cpu_model.specs.declared.rows.Stack.{Stack}
use Rattle.cpu_model.specs.declared.instruction.Instr.{Instr}
use Rattle.cpu_model.specs.declared.instruction.Tail.{Tail}
use Rattle.cpu_model.specs.declared.instruction.Tail.TheVariants.{Empty, Byte}
use Rattle.cpu_model.specs.Table.{row, is_pair}
use Rattle.text_values.specs.Cuts.{first_word, behind_word, without_spaces}
use Rattle.asm_model.specs.declared.operand.Field.{Field}
use Rattle.asm_model.specs.declared.operand.Field.TheVariants as field
use Rattle.asm_model.specs.declared.operand.Mark.{Mark}
use Rattle.asm_model.specs.declared.operand.Wanted.{Wanted}
use Rattle.asm_model.specs.declared.operand.Wanted.TheVariants.{Nothing, Fixed, Value}
use Rattle.asm_model.specs.Characters.{same_word, is_comma, is_hash, is_less, is_greater, is_line_byte}
use Rattle.asm_model.specs.Mnemonics.{row_word}
use Rattle.asm_model.specs.Operands.{Operand, operand, valued, mark_of, fits, mode_operand, row_operand, immediate_operand, direct_operand, address_operand, mask_operand, register_mask, register_pair, pair_among, register_code, if_pair, immediate8 as read_immediate8, filled}
use Rattle.asm_model.specs.Instructions.{Entry, is_entry, opcode_map, entry_of, Shape, shape_of, shape_with, shape_length, shape_instr, with_tail, wanted_tail, operand_text, worded_instr, instr_of}
use Rattle.asm_model.proofs.Entries.{on_elements}
use Rattle.asm_model.proofs.EntryOf.{rows_are}
use Rattle.asm_lines.specs.Expressions.{IsExpression}
use Rattle.asm_lines.specs.Operands.{IsPushOrPull, push, pull, IsOperand, inherent, immediate8, registers, immediate16, direct, extended, extended_marked, indexed, relative8, relative16, pair, IsTail, no_tail, fixed_tail, value_tail}
use Rattle.asm_lines.specs.Instructions.{IsShape, IsInstruction, EndsThere}
use Rattle.asm_lines.proofs.Complete.{shape-fits}
use Rattle.asm_lines.proofs.Lines.{word-free, ends-there, word-and-rest, spaces_of, spaces-all, spaces-and-rest, no-more}
use Rattle.asm_lines.proofs.Lists.{found-passes, found-in, joined-back, mask-list}
use Rattle.asm_lines.proofs.Offsets.{valued-back, indexed-formed}
use Rattle.asm_lines.proofs.SumValues.{sum_of, value-of-found}

-- ---- the operand of a mode

fixed-step : (read : Option ℕ) (o : Operand) → option_map (λ m. operand None (Fixed m) []) read ≡ Some o → (m : ℕ) × (read ≡ Some m) × (operand None (Fixed m) [] ≡ o)
fixed-step None o is = absurd (cc)
fixed-step (Some m) o is = (m, refl, cc)

module _ (op : Operation) (o : Operand) where
  fixed-formed : (mode : Mode) (text : List ℕ) (read : Option ℕ) → ((m : ℕ) → read ≡ Some m → IsOperand op mode text (operand None (Fixed m) [])) →
      option_map (λ m. operand None (Fixed m) []) read ≡ Some o → IsOperand op mode text o
  fixed-formed mode text read formed is = let found = fixed-step read o is in subst (IsOperand op mode text) found.2 (formed found.0 found.1)

  -- an expression of this field is an operand in the mode
  value-formed : (mode : Mode) (f : Field) (e text : List ℕ) → (IsExpression e → IsOperand op mode text (operand None (Value f) e)) → valued None f e ≡ Some o → IsOperand op mode text o
  value-formed mode f e text formed read = let back = valued-back None f e o read in subst (IsOperand op mode text) back.1 (formed back.0)

  marked-step : (mode : Mode) (f : Field) (k c : ℕ) (e : List ℕ) (b : Bool) → (c == k) ≡ b → (IsExpression e → IsOperand op mode (k ∷ e) (operand None (Value f) e)) →
      (if b then valued None f e else None) ≡ Some o → IsOperand op mode (c ∷ e) o
  marked-step mode f k c e true is formed read =
      subst (λ (d : ℕ). IsOperand op mode (d ∷ e) o) (sym (eqb-true c k is)) (value-formed mode f e (k ∷ e) formed read)
  marked-step mode f k c e false is formed read = absurd (cc)

  immediate-formed : (mode : Mode) (f : Field) (text : List ℕ) → ((e : List ℕ) → IsExpression e → IsOperand op mode (35 ∷ e) (operand None (Value f) e)) → immediate_operand f text ≡ Some o →
      IsOperand op mode text o
  immediate-formed mode f [] formed read = absurd (cc)
  immediate-formed mode f (c ∷ e) formed read = marked-step mode f 35 c e (is_hash c) refl (formed e) read

  direct-formed : (text : List ℕ) → direct_operand text ≡ Some o → IsOperand op Direct text o
  direct-formed [] read = absurd (cc)
  direct-formed (c ∷ e) read = marked-step Direct field.Direct 60 c e (is_less c) refl (λ is. direct is) read

  mask-step : (stack : Stack) (c : ℕ) (text : List ℕ) → IsPushOrPull stack op → (b : Bool) → is_hash c ≡ b →
      (if b then valued None field.Byte text else option_map (λ mask. operand None (Fixed mask) []) (register_mask stack (c ∷ text))) ≡ Some o → IsOperand op Immediate8 (c ∷ text) o
  mask-step stack c text which true is read =
      subst (λ (d : ℕ). IsOperand op Immediate8 (d ∷ text) o) (sym (eqb-true c 35 is)) (value-formed Immediate8 field.Byte text (35 ∷ text) (λ its. immediate8 its) read)
  mask-step stack c text which false is read =
      fixed-formed Immediate8 (c ∷ text) (register_mask stack (c ∷ text)) (λ m found. registers stack which (mask-list stack (c ∷ text) m found)) read

  mask-formed : (stack : Stack) (text : List ℕ) → IsPushOrPull stack op → mask_operand stack text ≡ Some o → IsOperand op Immediate8 text o
  mask-formed stack [] which read = absurd (cc)
  mask-formed stack (c ∷ text) which read = mask-step stack c text which (is_hash c) refl read

  address-step : (c : ℕ) (e : List ℕ) (b : Bool) → is_greater c ≡ b → (if b then valued None field.Word e else valued None field.Word (c ∷ e)) ≡ Some o → IsOperand op Extended (c ∷ e) o
  address-step c e true is read =
      subst (λ (d : ℕ). IsOperand op Extended (d ∷ e) o) (sym (eqb-true c 62 is)) (value-formed Extended field.Word e (62 ∷ e) (λ its. extended_marked its) read)
  address-step c e false is read = value-formed Extended field.Word (c ∷ e) (c ∷ e) (λ its. extended its) read

  address-formed : (text : List ℕ) → address_operand text ≡ Some o → IsOperand op Extended text o
  address-formed [] read = absurd (cc)
  address-formed (c ∷ e) read = address-step c e (is_greater c) refl read

-- ---- pairs

module _ (op : Operation) where
  abbrev IsPair : List ℕ → ℕ → Type 0
  IsPair text m = IsOperand op Pair text (operand None (Fixed m) [])

  pair-low : (source destination text : List ℕ) (high : ℕ) (low : Option ℕ) (m : ℕ) → text ≡ source ++ (44 ∷ destination) → register_code source ≡ Some high → register_code destination ≡ low →
      option_and_then (λ low. if_pair (16 * high + low)) low ≡ Some m → IsPair text m
  pair-low source destination text high None m same first second is = absurd (cc)
  pair-low source destination text high (Some low) m same first second is = by-size (is_pair (16 * high + low)) refl is
    where
      by-size : (b : Bool) → is_pair (16 * high + low) ≡ b → (if b then Some (16 * high + low) else None) ≡ Some m → IsPair text m
      by-size true its whole =
          let byte : 16 * high + low ≡ m = cc in
          subst (IsPair text) byte (subst (λ (t : List ℕ). IsPair t (16 * high + low)) (sym same) (pair source destination first second its))
      by-size false its whole = absurd (cc)

  pair-high : (source destination text : List ℕ) (high : Option ℕ) (m : ℕ) → text ≡ source ++ (44 ∷ destination) → register_code source ≡ high →
      option_and_then (λ high. option_and_then (λ low. if_pair (16 * high + low)) (register_code destination)) high ≡ Some m → IsPair text m
  pair-high source destination text None m same first is = absurd (cc)
  pair-high source destination text (Some high) m same first is = pair-low source destination text high (register_code destination) m same first refl is

  pair-parts : (text : List ℕ) (parts : List (List ℕ)) (m : ℕ) → slice_split is_comma text ≡ parts → pair_among parts ≡ Some m → IsPair text m
  pair-parts text [] m same is = absurd (cc)
  pair-parts text (source ∷ []) m same is = absurd (cc)
  pair-parts text (source ∷ destination ∷ []) m same is = pair-high source destination text (register_code source) m (joined-back text (source ∷ destination ∷ []) same) refl is
  pair-parts text (source ∷ destination ∷ third ∷ more) m same is = absurd (cc)

-- what is read in immediate mode
eight-formed : (op : Operation) (o : Operand) (text : List ℕ) → read_immediate8 op text ≡ Some o → IsOperand op Immediate8 text o
eight-formed (Psh stack) o text read = mask-formed (Psh stack) o stack text push read
eight-formed (Pul stack) o text read = mask-formed (Pul stack) o stack text pull read
eight-formed op o text read = immediate-formed op o Immediate8 field.Byte text (λ e is. immediate8 is) read

operand-formed : (op : Operation) (o : Operand) (mode : Mode) (text : List ℕ) → mode_operand op mode text ≡ Some o → IsOperand op mode text o
operand-formed op o Inherent text read = let same : operand None Nothing [] ≡ o = cc in subst (IsOperand op Inherent text) same inherent
operand-formed op o Immediate8 text read = eight-formed op o text read
operand-formed op o Immediate16 text read = immediate-formed op o Immediate16 field.Word text (λ e is. immediate16 is) read
operand-formed op o Direct text read = direct-formed op o text read
operand-formed op o Indexed text read = indexed (indexed-formed text o read)
operand-formed op o Extended text read = address-formed op o text read
operand-formed op o Relative8 text read = value-formed op o Relative8 field.Target8 text text (λ is. relative8 is) read
operand-formed op o Relative16 text read = value-formed op o Relative16 field.Target16 text text (λ is. relative16 is) read
operand-formed op o Pair text read =
    fixed-formed op o Pair text (register_pair text) (λ m found. pair-parts op text (slice_split is_comma text) m refl found) read

-- ---- a word and an operand

entry-named : (word : List ℕ) (m : Mark) (e : Entry) → entry_of word m ≡ Some e → same_word (row_word e.line.row) word ≡ true
unfolding entry_of
entry-named word m e is = (and_parts (same_word (row_word e.line.row) word) (fits e.line.row m) (found-passes (is_entry word m) e opcode_map is)).0

entry-row : (word : List ℕ) (m : Mark) (e : Entry) → entry_of word m ≡ Some e → row e.page e.line.opcode ≡ Some e.line.row
unfolding entry_of
entry-row word m e is = on_elements (λ e. row e.page e.line.opcode) (λ e. Some e.line.row) e opcode_map rows_are (found-in (is_entry word m) e opcode_map is)

module _ (word text : List ℕ) (s : Shape) where
  by-operand : (e : Entry) (o : Option Operand) → entry_of word (mark_of text) ≡ Some e → row_operand e.line.row text ≡ o → option_map (shape_with e) o ≡ Some s → IsShape word text s
  unfolding row_operand
  by-operand e None entered read whole = absurd (cc)
  by-operand e (Some o) entered read whole =
      let same : shape_with e o ≡ s = cc in
      subst (IsShape word text) same (record {
        row = e.line.row;
        in_map = entry-row word (mark_of text) e entered;
        named = entry-named word (mark_of text) e entered;
        operand_is = operand-formed e.line.row.0 o e.line.row.1 text read;
      })

  by-entry : (e : Option Entry) → entry_of word (mark_of text) ≡ e → option_and_then (λ e. option_map (shape_with e) (row_operand e.line.row text)) e ≡ Some s → IsShape word text s
  by-entry None entered whole = absurd (cc)
  by-entry (Some e) entered whole = by-operand e (row_operand e.line.row text) entered refl whole

  -- what is read as a shape is one by its form
  pub shape-formed : shape_of word text ≡ Some s → IsShape word text s
  shape-formed is = by-entry (entry_of word (mark_of text)) refl is

-- ---- operand bytes

value-back : (next : ℕ) (f : Field) (e : List ℕ) (tail : Tail) (o : Option ℤ) → sum_of e ≡ o → option_and_then (filled f next) o ≡ Some tail → IsTail next (Value f) e tail
value-back next f e tail None is whole = absurd (cc)
value-back next f e tail (Some z) is whole = value_tail (value-of-found e z is) whole

tail-back : (next : ℕ) (w : Wanted) (e : List ℕ) (tail : Tail) → wanted_tail w next e ≡ Some tail → IsTail next w e tail
tail-back next Nothing e tail is = let same : Empty ≡ tail = cc in subst (IsTail next Nothing e) same no_tail
tail-back next (Fixed b) e tail is = let same : Byte b ≡ tail = cc in subst (IsTail next (Fixed b) e) same fixed_tail
tail-back next (Value f) e tail is = value-back next f e tail (sum_of e) refl is

-- ---- the line

module _ (line : List ℕ) (at : ℕ) (i : Instr) (shown : list_all is_line_byte line ≡ true) where
  abbrev rest : List ℕ
  rest = behind_word line

  abbrev back : List ℕ
  back = without_spaces rest

  parts-are : line ≡ first_word line ++ (spaces_of rest ++ (first_word back ++ behind_word back))
  parts-are =
      sym (word-and-rest line) ∙ ap (λ r. first_word line ++ r) (sym (spaces-and-rest rest))
      ∙ ap (λ r. first_word line ++ (spaces_of rest ++ r)) (sym (word-and-rest back))

  apart-is : EndsThere (spaces_of rest ++ (first_word back ++ behind_word back))
  apart-is =
      subst EndsThere (sym (spaces-and-rest rest) ∙ ap (λ r. spaces_of rest ++ r) (sym (word-and-rest back))) (ends-there line)

  abbrev next_of : Shape → ℕ
  next_of s = at + shape_length s

  tailed : (s : Shape) (tail : Option Tail) → shape_of (first_word line) (operand_text line) ≡ Some s → wanted_tail s.operand.wanted (next_of s) s.operand.expression ≡ tail →
      option_map (with_tail s) tail ≡ Some i → IsInstruction line at i
  tailed s None shaped fills whole = absurd (cc)
  tailed s (Some tail) shaped fills whole =
      let same : with_tail s tail ≡ i = cc in
      subst (IsInstruction line at) same (record {
        word = first_word line;
        spaces = spaces_of rest;
        operand = first_word back;
        comment = behind_word back;
        line_is = parts-are;
        shown = shown;
        one_word = word-free line;
        all_spaces = spaces-all rest;
        apart = apart-is;
        one_operand = word-free back;
        comment_apart = ends-there back;
        comment_last = no-more rest;
        shape = s;
        shape_is = shape-formed (first_word line) (operand_text line) s shaped;
        with_it = refl;
        tail_is =
            subst (λ (n : ℕ). IsTail (at + n) s.operand.wanted s.operand.expression tail) (shape-fits s (next_of s) tail fills)
            (tail-back (next_of s) s.operand.wanted s.operand.expression tail fills);
      })

  by-shape : (s : Option Shape) → shape_of (first_word line) (operand_text line) ≡ s → option_and_then (shape_instr at) s ≡ Some i → IsInstruction line at i
  by-shape None shaped whole = absurd (cc)
  by-shape (Some s) shaped whole = tailed s (wanted_tail s.operand.wanted (next_of s) s.operand.expression) shaped refl whole

by-bytes : (line : List ℕ) (at : ℕ) (i : Instr) (b : Bool) → list_all is_line_byte line ≡ b → (if b then worded_instr line at else None) ≡ Some i → IsInstruction line at i
by-bytes line at i true shown is = by-shape line at i shown (shape_of (first_word line) (operand_text line)) refl is
by-bytes line at i false shown is = absurd (cc)

pub line-formed : (line : List ℕ) (at : ℕ) (i : Instr) → instr_of line at ≡ Some i → IsInstruction line at i
line-formed line at i is = by-bytes line at i (list_all is_line_byte line) refl is
