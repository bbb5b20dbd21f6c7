-- Operand bytes, by the values of terms (this project's own).
use Rattle.std.specs.Prelude.{ℕ, Option, Some, option_and_then, List, ℤ}
use Rattle.cpu_model.specs.declared.instruction.Tail.{Tail}
use Rattle.cpu_model.specs.declared.instruction.Tail.TheVariants.{Empty, Byte}
use Rattle.asm_model.specs.declared.operand.Wanted.{Wanted}
use Rattle.asm_model.specs.declared.operand.Wanted.TheVariants.{Nothing, Fixed, Value}
use Rattle.asm_model.specs.Expressions.{Term, terms, value_of}
use Rattle.asm_model.specs.Operands.{filled}

-- the operand bytes, with the value of the expression
abbrev pub tail_by : (Term → Option ℤ) → Wanted → ℕ → List ℕ → Option Tail
tail_by meaning Nothing next text = Some Empty
tail_by meaning (Fixed b) next text = Some (Byte b)
tail_by meaning (Value f) next text = option_and_then (filled f next) (option_and_then (value_of meaning) (terms text))
