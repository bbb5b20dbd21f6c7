-- An instruction that was read, with its row of the opcode map.
use Rattle.std.specs.Prelude.{◌≡◌, Some, Result, Ok, Err, IfOk}
use Rattle.cpu_model.specs.declared.instruction.DecodeFault.{DecodeFault}
use Rattle.cpu_model.specs.Table.{row}
use Rattle.cpu_model.specs.Reading.{Reading}
use Rattle.cpu_table.specs.declared.reading.Head.{Head}
use Rattle.cpu_table.specs.declared.reading.Decoded.{Decoded}

-- what is read, if there is an instruction, begins with this head
abbrev pub BeginsWithHead : Head → Reading → Type 0
BeginsWithHead head read = IfOk read (λ found. (found.0.page ≡ head.page) × (found.0.opcode ≡ head.opcode))

-- what was read, without the row
abbrev pub reading_of : Result Decoded DecodeFault → Reading
reading_of (Err fault) = Err fault
reading_of (Ok decoded) = Ok (decoded.instr, decoded.length)

-- the row is that of the instruction in the opcode map
abbrev pub HasItsRow : Decoded → Type 0
HasItsRow decoded = row decoded.instr.page decoded.instr.opcode ≡ Some decoded.row
