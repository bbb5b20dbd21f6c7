-- Instructions in memory, as a debugger shows them (this project's own).
use Rattle.std.specs.Prelude.{ℕ, zero, suc, ◌+◌, ◌%◌, codes, Option, Some, None, Ok, Err, List, [], ◌∷◌, ◌++◌}
use Rattle.os9_base.specs.Cells.{Cells}
use Rattle.cpu_model.specs.Reading.{Reading, reading}
use Rattle.asm_model.specs.Numbers.{four_digits}
use Rattle.asm_model.specs.Print.{printed}

-- the most bytes of an instruction
abbrev pub longest_instruction : ℕ
longest_instruction = 5

-- a byte and those after it, or none if it is not there
abbrev pub byte_before : Option ℕ → List ℕ → List ℕ
byte_before None bytes = []
byte_before (Some byte) bytes = byte ∷ bytes

-- the bytes from an address on up to the first missing one, at most a given number; 0000 follows FFFF
abbrev pub bytes_from : Cells → ℕ → ℕ → List ℕ
bytes_from cells at zero = []
bytes_from cells at (suc most) = byte_before (cells (at % 65536)) (bytes_from cells (at + 1) most)

-- what is read at an address: an instruction with all its bytes there, or none
abbrev pub reading_at : Cells → ℕ → Reading
reading_at cells at = reading (bytes_from cells at longest_instruction)

-- the text of what is read at an address, and the number of its bytes
abbrev pub reading_text : ℕ → Reading → List ℕ
reading_text at (Ok (instruction, length)) = printed instruction at
reading_text at (Err fault) = codes "?"

abbrev pub reading_length : Reading → ℕ
reading_length (Ok (instruction, length)) = length
reading_length (Err fault) = 1

-- the line of what is read at an address
abbrev pub dis_line : ℕ → Reading → List ℕ
dis_line at read = four_digits at ++ codes " " ++ reading_text at read ++ codes "\n"

-- a number of lines, each after the bytes of the one before
abbrev pub dis_lines : Cells → ℕ → ℕ → List ℕ
dis_lines cells at zero = []
dis_lines cells at (suc count) =
    dis_line at (reading_at cells at)
    ++ dis_lines cells ((at + reading_length (reading_at cells at)) % 65536) count
