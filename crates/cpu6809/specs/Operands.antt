-- Operands, and the registers after their address is formed.
use Rattle.std.specs.Prelude.{ℕ}
use Rattle.os9_base.specs.declared.registers.Regs.{Regs}
use Rattle.cpu_model.specs.declared.operand.ByteOperand.{ByteOperand}
use Rattle.cpu_model.specs.declared.operand.WordOperand.{WordOperand}

abbrev pub byte_with : Regs → ℕ → ByteOperand
byte_with r value = record { value = value; regs = r }

abbrev pub word_with : Regs → ℕ → WordOperand
word_with r value = record { value = value; regs = r }
