-- The lines that are an instruction, with numbers alone in their expressions (this project's own).
use Rattle.std.specs.Prelude.{ℕ, ◌+◌, ◌&&◌, Bool, Option, Some, None, option_map, option_and_then, List, ◌++◌, length, map, if◌then◌else◌}
use Rattle.std.specs.List.{find, list_all}
use Rattle.cpu_model.specs.declared.instruction.Page.{Page}
use Rattle.cpu_model.specs.declared.instruction.Page.TheVariants.{Base, Ten, Eleven}
use Rattle.cpu_model.specs.declared.instruction.Tail.{Tail}
use Rattle.cpu_model.specs.declared.instruction.Tail.TheVariants.{Empty, Byte}
use Rattle.cpu_model.specs.declared.instruction.Instr.{Instr}
use Rattle.cpu_model.specs.declared.rows.Row.{Row}
use Rattle.cpu_model.specs.Line.{Line}
use Rattle.cpu_model.specs.Table.{page_lines}
use Rattle.cpu_table.specs.Spelling.{prefix}
use Rattle.asm_model.specs.declared.operand.Wanted.{Wanted}
use Rattle.asm_model.specs.declared.operand.Wanted.TheVariants.{Nothing, Fixed, Value}
use Rattle.asm_model.specs.declared.operand.Field.{Field}
use Rattle.asm_model.specs.declared.operand.Field.TheVariants as field
use Rattle.asm_model.specs.declared.operand.Mark.{Mark}
use Rattle.text_values.specs.Cuts.{first_word, behind_word, without_spaces}
use Rattle.asm_model.specs.Characters.{is_line_byte, same_word}
use Rattle.asm_model.specs.Mnemonics.{row_word}
use Rattle.asm_model.specs.Expressions.{terms, value_of, constant_meaning}
use Rattle.asm_model.specs.Operands.{Operand, mark_of, fits, row_operand, filled}

-- ---- the opcode map as one list

-- a line of the opcode map, with its page
pub record Entry : Type 0 where
  pub page : Page
  pub line : Line

abbrev pub entry : Page → Line → Entry
entry page l = record { page = page; line = l }

abbrev pub line_of : ℕ → Row → Line
line_of opcode r = record { opcode = opcode; row = r }

abbrev pub row_entry : Page → ℕ → Row → Entry
row_entry page opcode r = entry page (line_of opcode r)

unfoldable pub opcode_map : List Entry
opcode_map =
    map (entry Base) (page_lines Base)
    ++ (map (entry Ten) (page_lines Ten) ++ map (entry Eleven) (page_lines Eleven))

-- the entry has this word, and its operand may have this mark
abbrev pub is_entry : List ℕ → Mark → Entry → Bool
is_entry word mark e = same_word (row_word e.line.row) word && fits e.line.row mark

unfoldable pub entry_of : List ℕ → Mark → Option Entry
entry_of word mark = find (is_entry word mark) opcode_map

-- ---- instructions without the value of an expression

-- an instruction without the value of its expression
pub record Shape : Type 0 where
  pub page : Page
  pub opcode : ℕ
  pub operand : Operand

abbrev pub shape_with : Entry → Operand → Shape
shape_with e o = record { page = e.page; opcode = e.line.opcode; operand = o }

-- the instruction of a word and an operand, if there is one
abbrev pub shape_of : List ℕ → List ℕ → Option Shape
shape_of word text =
    option_and_then (λ e. option_map (shape_with e) (row_operand e.line.row text)) (entry_of word (mark_of text))

-- the number of bytes of a field's value
abbrev pub field_length : Field → ℕ
field_length field.Byte = 1
field_length field.Direct = 1
field_length field.Offset8 = 1
field_length field.Target8 = 1
field_length _ = 2

abbrev pub wanted_length : Wanted → ℕ
wanted_length Nothing = 0
wanted_length (Fixed b) = 1
wanted_length (Value f) = field_length f

abbrev pub post_length : Option ℕ → ℕ
post_length None = 0
post_length (Some post) = 1

-- the number of bytes of an instruction, which does not depend on the value of its expression
abbrev pub shape_length : Shape → ℕ
shape_length s = length (prefix s.page) + 1 + (post_length s.operand.post + wanted_length s.operand.wanted)

-- the operand bytes, with the value of the expression
abbrev pub wanted_tail : Wanted → ℕ → List ℕ → Option Tail
wanted_tail Nothing next text = Some Empty
wanted_tail (Fixed b) next text = Some (Byte b)
wanted_tail (Value f) next text =
    option_and_then (filled f next) (option_and_then (value_of constant_meaning) (terms text))

abbrev pub with_tail : Shape → Tail → Instr
with_tail s tail = record { page = s.page; opcode = s.opcode; post = s.operand.post; tail = tail }

-- the instruction at this offset, with numbers alone in its expression
abbrev pub shape_instr : ℕ → Shape → Option Instr
shape_instr at s =
    option_map (with_tail s) (wanted_tail s.operand.wanted (at + shape_length s) s.operand.expression)

-- ---- lines

-- the operand: it follows the word and spaces, and ends before the next space
abbrev pub operand_text : List ℕ → List ℕ
operand_text line = first_word (without_spaces (behind_word line))

-- the instruction of a word, spaces and an operand, at an offset
abbrev pub worded_instr : List ℕ → ℕ → Option Instr
worded_instr line at = option_and_then (shape_instr at) (shape_of (first_word line) (operand_text line))

-- the instruction of a line at an offset
abbrev pub instr_of : List ℕ → ℕ → Option Instr
instr_of line at = if list_all is_line_byte line then worded_instr line at else None
