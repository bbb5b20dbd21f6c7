-- A line of the opcode map.
use Rattle.std.specs.Prelude.{ℕ, ◌==◌, Option, Some, None, List, [], ◌∷◌, if◌then◌else◌}
use Rattle.cpu_model.specs.declared.rows.Row.{Row}
use Rattle.cpu_model.specs.declared.rows.Operation.{Operation}
use Rattle.cpu_model.specs.declared.rows.Mode.{Mode}

-- an opcode and its row
pub record Line : Type 0 where
  pub opcode : ℕ
  pub row : Row

abbrev pub line : ℕ → Operation → Mode → Line
line opcode operation mode = record { opcode = opcode; row = record { 0 = operation; 1 = mode } }

-- the row of the line with this opcode, or nothing if no line has it
abbrev pub row_among : List Line → ℕ → Option Row
row_among [] opcode = None
row_among (l ∷ ls) opcode = if l.opcode == opcode then Some l.row else row_among ls opcode
