-- The operands and instructions of the code as those of the language.
use Rattle.std.specs.Prelude.{ℕ, Option, None, option_map, List, []}
use Rattle.asm_model.specs.declared.operand.Wanted.TheVariants.{Fixed}
use Rattle.asm_model.specs.Operands.{Operand as OperandOf, operand, register_pair}
use Rattle.asm_model.specs.Instructions.{Entry, row_entry, Shape as ShapeOf}
use Rattle.asm_text.specs.declared.entry.Found.{Found}
use Rattle.asm_text.specs.declared.operand.Operand.{Operand}
use Rattle.asm_text.specs.declared.shape.Shape.{Shape}

-- the entry of the opcode map
abbrev pub entry_found : Found → Entry
entry_found f = row_entry f.page f.opcode f.row

-- the operand as the model has it
abbrev pub operand_of : Operand → OperandOf
operand_of o = record { post = o.post; wanted = o.wanted; expression = o.expression.now }

-- the instruction as the model has it
abbrev pub shape_as : Shape → ShapeOf
shape_as s = record { page = s.page; opcode = s.opcode; operand = operand_of s.operand }

-- two registers of one size
abbrev pub pair_operand : List ℕ → Option OperandOf
pair_operand text = option_map (λ pair. operand None (Fixed pair) []) (register_pair text)
