-- Offsets from an index register (programming manual, "Indexed addressing").
use Rattle.std.specs.Prelude.{ℕ, Bool, option_and_then, List}
use Rattle.asm_model.specs.declared.operand.Size.{Size}
use Rattle.asm_model.specs.declared.operand.Size.TheVariants.{Eight, Sixteen}
use Rattle.asm_model.specs.declared.operand.Width.{Width}
use Rattle.asm_model.specs.declared.operand.Width.TheVariants.{Narrow, Wide, Unmarked}
use Rattle.asm_model.specs.Expressions.{terms, lone_value}
use Rattle.asm_model.specs.Operands.{Offset as OffsetOf, size_of_value}
use Rattle.asm_text.specs.declared.index.Offset.{Offset}

-- the offset as the model has it
abbrev pub offset_as : Offset → OffsetOf
offset_as o = record { width = o.width; expression = o.expression.now }

-- the size of an offset, by its mark or by its value
abbrev pub offset_size : Width → Bool → List ℕ → Size
offset_size Narrow indirect text = Eight
offset_size Wide indirect text = Sixteen
offset_size Unmarked indirect text = size_of_value indirect (option_and_then lone_value (terms text))
