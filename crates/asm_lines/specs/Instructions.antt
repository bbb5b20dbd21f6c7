-- The lines that are an instruction, by their texts (this project's own, in the manner of the usual assemblers
-- of the 6809).
use Rattle.std.specs.Prelude.{◌≡◌, ℕ, ◌+◌, true, false, Some, List, [], ◌∷◌, ◌++◌, length}
use Rattle.std.specs.List.{list_all, list_any}
use Rattle.cpu_model.specs.declared.instruction.Instr.{Instr}
use Rattle.cpu_model.specs.declared.rows.Row.{Row}
use Rattle.cpu_model.specs.Table as table
use Rattle.cpu_table.specs.Spelling.{spelling}
use Rattle.text_values.specs.Cuts.{is_space}
use Rattle.asm_model.specs.Characters.{is_line_byte, same_word}
use Rattle.asm_model.specs.Mnemonics.{row_word}
use Rattle.asm_model.specs.Instructions.{Shape, with_tail}
use Rattle.asm_lines.specs.Operands.{IsOperand, IsTail}

-- nothing, or a text that begins with a space
pub data EndsThere : List ℕ → Type 0 where
  nothing : EndsThere []
  space : {rest : List ℕ} → EndsThere (32 ∷ rest)

-- a word and an operand have this shape
pub record IsShape (word text : List ℕ) (s : Shape) : Type 0 where
  -- a row of the opcode map has the word, in any case of letters
  pub row : Row
  pub in_map : table.row s.page s.opcode ≡ Some row
  pub named : same_word (row_word row) word ≡ true
  -- the operand is one of the row's mode
  pub operand_is : IsOperand row.0 row.1 text s.operand

-- the line is an instruction at this offset: its word, spaces, an operand and a comment
pub record IsInstruction (line : List ℕ) (at : ℕ) (i : Instr) : Type 0 where
  pub word : List ℕ
  pub spaces : List ℕ
  pub operand : List ℕ
  pub comment : List ℕ
  pub line_is : line ≡ word ++ (spaces ++ (operand ++ comment))
  pub shown : list_all is_line_byte line ≡ true
  pub one_word : list_any is_space word ≡ false
  pub all_spaces : list_all is_space spaces ≡ true
  pub apart : EndsThere (spaces ++ (operand ++ comment))
  pub one_operand : list_any is_space operand ≡ false
  pub comment_apart : EndsThere comment
  pub comment_last : operand ≡ [] → comment ≡ []
  pub shape : Shape
  pub shape_is : IsShape word operand shape
  -- the instruction has this shape, with the operand bytes that the shape needs
  pub with_it : with_tail shape i.tail ≡ i
  pub tail_is : IsTail (at + length (spelling i)) shape.operand.wanted shape.operand.expression i.tail
