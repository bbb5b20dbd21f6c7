-- The instruction that a line is read as is one that decoding can give.
use Rattle.std.proofs.Common.{◌≡◌, ℕ, ◌+◌, Bool, true, false, Option, Some, None, List, [], ◌∷◌, inl, inr, refl, subst}
use Rattle.std.specs.Prelude.{option_map, option_and_then, if◌then◌else◌}
use Rattle.std.specs.List.{find, list_all}
use Rattle.text_values.specs.Cuts.{first_word}
use Rattle.cpu_model.specs.declared.instruction.Tail.{Tail}
use Rattle.cpu_model.specs.declared.instruction.Instr.{Instr}
use Rattle.cpu_model.specs.Table.{row}
use Rattle.cpu_table.specs.Spelling.{IsPlainInstr}
use Rattle.asm_model.specs.declared.operand.Mark.{Mark}
use Rattle.asm_model.specs.Characters.{is_line_byte}
use Rattle.asm_model.specs.Operands.{Operand, row_operand, mark_of}
use Rattle.asm_model.specs.Instructions.{Entry, is_entry, opcode_map, entry_of, shape_with, shape_length, shape_instr, with_tail, wanted_tail, worded_instr, operand_text, instr_of}
use Rattle.asm_model.proofs.Entries.{IsIn, on_elements}
use Rattle.asm_model.proofs.EntryOf.{rows_are}
use Rattle.asm_model.proofs.Sound.{row_plain}

found_step : {A : Type 0} (p : A → Bool) (x y : A) (ys : List A) (b : Bool) → p y ≡ b → (if b then Some y else find p ys) ≡ Some x → (find p ys ≡ Some x → IsIn x ys) → IsIn x (y ∷ ys)
found_step p x y ys true at is others = let same : x ≡ y = cc in inl same
found_step p x y ys false at is others = inr (others is)

found_in : {A : Type 0} (p : A → Bool) (x : A) (xs : List A) → find p xs ≡ Some x → IsIn x xs
found_in p x [] is = absurd (cc)
found_in p x (y ∷ ys) is = found_step p x y ys (p y) refl is (found_in p x ys)

entry_row : (word : List ℕ) (m : Mark) (e : Entry) → entry_of word m ≡ Some e → row e.page e.line.opcode ≡ Some e.line.row
unfolding entry_of
entry_row word m e is = on_elements (λ e. row e.page e.line.opcode) (λ e. Some e.line.row) e opcode_map rows_are (found_in (is_entry word m) e opcode_map is)

module _ (at : ℕ) (text : List ℕ) (i : Instr) where
  filled : (e : Entry) (o : Operand) (found : Option Tail) → row e.page e.line.opcode ≡ Some e.line.row → row_operand e.line.row text ≡ Some o →
      wanted_tail o.wanted (at + shape_length (shape_with e o)) o.expression ≡ found → option_map (with_tail (shape_with e o)) found ≡ Some i → IsPlainInstr i
  filled e o None is read fills whole = absurd (cc)
  filled e o (Some tail) is read fills whole =
      let same : with_tail (shape_with e o) tail ≡ i = cc in
      subst (λ (j : Instr). IsPlainInstr j) same (row_plain e.page e.line.opcode e.line.row text o _ tail is read fills)

  shaped : (e : Entry) (o : Option Operand) → row e.page e.line.opcode ≡ Some e.line.row → row_operand e.line.row text
      ≡ o → option_and_then (shape_instr at) (option_map (shape_with e) o) ≡ Some i → IsPlainInstr i
  shaped e None is read whole = absurd (cc)
  shaped e (Some o) is read whole = filled e o (wanted_tail o.wanted (at + shape_length (shape_with e o)) o.expression) is read refl whole

  entered : (word : List ℕ) (e : Option Entry) → entry_of word (mark_of text) ≡ e →
      option_and_then (shape_instr at) (option_and_then (λ e. option_map (shape_with e) (row_operand e.line.row text)) e) ≡ Some i → IsPlainInstr i
  entered word None is whole = absurd (cc)
  entered word (Some e) is whole = shaped e (row_operand e.line.row text) (entry_row word (mark_of text) e is) refl whole

lined : (line : List ℕ) (at : ℕ) (i : Instr) (b : Bool) → (if b then worded_instr line at else None) ≡ Some i → IsPlainInstr i
lined line at i true is = entered at (operand_text line) i (first_word line) (entry_of (first_word line) (mark_of (operand_text line))) refl is
lined line at i false is = absurd (cc)

pub instr_plain : (line : List ℕ) (at : ℕ) (i : Instr) → instr_of line at ≡ Some i → IsPlainInstr i
instr_plain line at i is = lined line at i (list_all is_line_byte line) is
