-- Bytes that a call reads in the memory of its process, and words that it puts into registers.
use Rattle.std.specs.Prelude.{ℕ, zero, suc, ◌+◌, ◌*◌, ◌/◌, ◌%◌, Option, Some, option_map, option_and_then, List, [], ◌∷◌}
use Rattle.os9_base.specs.Cells.{Cells}
use Rattle.os9_base.specs.declared.registers.Regs.{Regs}
use Rattle.os9_base.specs.UserNames.{user_cell}

-- a byte and the bytes after it, if all of them are there
abbrev pub byte_before : Option ℕ → Option (List ℕ) → Option (List ℕ)
byte_before byte bytes = option_and_then (λ first. option_map (λ rest. first ∷ rest) bytes) byte

-- this number of bytes from an address on; nothing if one of them is in no named slot or past FFFF
abbrev pub user_bytes : Cells → ℕ → ℕ → Option (List ℕ)
user_bytes cells at zero = Some []
user_bytes cells at (suc count) = byte_before (user_cell cells at) (user_bytes cells (at + 1) count)

-- the two bytes of a word, high byte first
abbrev pub word_bytes : ℕ → List ℕ
word_bytes word = word / 256 ∷ word % 256 ∷ []

-- D: A is its high byte and B its low byte
abbrev pub d_of : Regs → ℕ
d_of regs = 256 * regs.a + regs.b

abbrev pub with_d : Regs → ℕ → Regs
with_d regs d = record regs { a = d / 256; b = d % 256 }
