-- The conditions in the laws of the texts of instructions.
use Rattle.std.specs.Prelude.{◌<◌, IfSome, ⊤}
use Rattle.cpu_model.specs.declared.instruction.Tail.{Tail}
use Rattle.cpu_model.specs.declared.instruction.Tail.TheVariants.{Empty, Byte, Word}
use Rattle.cpu_model.specs.declared.instruction.Instr.{Instr}

-- the operand bytes are a byte or a word
abbrev pub TailFits : Tail → Type 0
TailFits Empty = ⊤
TailFits (Byte b) = b < 256
TailFits (Word w) = w < 65536

-- the postbyte is a byte, and the operand bytes are a byte or a word, as in each instruction of the program
pub record InstructionFits (i : Instr) : Type 0 where
  pub post : IfSome i.post (λ p. p < 256)
  pub tail : TailFits i.tail
