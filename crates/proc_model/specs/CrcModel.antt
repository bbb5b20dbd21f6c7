-- The CRC of a module (System Programmer's Manual, F$CRC): 24 bits, polynomial 800063, most significant bit first.
use Rattle.std.specs.Prelude.{ℕ, ◌-◌, ◌*◌, ◌/◌, ◌%◌, ◌^◌, ◌==◌, bit_xor, List, [], ◌∷◌, fold, if◌then◌else◌}
use Rattle.std.specs.Int.{bit_at}
use Rattle.std.specs.List.{flat_map}

-- the polynomial's 24 low coefficients
abbrev pub polynomial : ℕ
polynomial = 0x800063

-- the bits of a byte, most significant first
abbrev pub bits_of : ℕ → List ℕ
bits_of byte =
    bit_at byte 7 ∷ bit_at byte 6 ∷ bit_at byte 5 ∷ bit_at byte 4 ∷ bit_at byte 3 ∷ bit_at byte 2 ∷ bit_at byte 1
    ∷ bit_at byte 0 ∷ []

-- one step of the division: the register moves up by one place, and the polynomial is subtracted if the bit that leaves
-- it differs from the message's bit
unfoldable pub divided_once : ℕ → ℕ → ℕ
divided_once register bit =
    if register / 2 ^ 23 == bit then register * 2 % 2 ^ 24 else bit_xor (register * 2 % 2 ^ 24) polynomial

-- the register after the division of these bits
abbrev pub divided : ℕ → List ℕ → ℕ
divided register bits = fold divided_once register bits

-- the register after the division of these bytes, bit by bit
abbrev pub crc_register : ℕ → List ℕ → ℕ
crc_register register bytes = divided register (flat_map bits_of bytes)

-- the CRC of a list of bytes: the complement of the register after the division, which begins with FFFFFF
abbrev pub crc_of : List ℕ → ℕ
crc_of bytes = 0xFFFFFF - crc_register 0xFFFFFF bytes
