-- What the MC6809's arithmetic computes, in whole numbers (programming manual, appendix A, "Operation" of each
-- instruction).
use Rattle.std.specs.Prelude.{ℕ, ◌+◌, ◌-◌, ◌*◌, ◌/◌, ◌%◌, ◌||◌, ◌&&◌, nat_le, nat_lt, Bool, if◌then◌else◌}
use Rattle.std.specs.Int.{from_bool}

-- ADD, ADC and ADDD: the sum, without its carry
abbrev pub sum8 : ℕ → ℕ → Bool → ℕ
sum8 a b carry = (a + b + from_bool carry) % 256

abbrev pub sum16 : ℕ → ℕ → ℕ
sum16 a b = (a + b) % 65536

-- SUB, SBC and CMP: the difference, without its borrow
abbrev pub difference8 : ℕ → ℕ → Bool → ℕ
difference8 a b borrow = (256 + a - (b + from_bool borrow)) % 256

abbrev pub difference16 : ℕ → ℕ → ℕ
difference16 a b = (65536 + a - b) % 65536

-- NEG: the number whose sum with the operand is 0
abbrev pub negative8 : ℕ → ℕ
negative8 a = (256 - a) % 256

-- COM: each bit inverted
abbrev pub complement8 : ℕ → ℕ
complement8 a = 255 - a

-- INC and DEC
abbrev pub next8 : ℕ → ℕ
next8 a = (a + 1) % 256

abbrev pub previous8 : ℕ → ℕ
previous8 a = (a + 255) % 256

-- ASL and ROL: one place to the left; `low` becomes bit 0
abbrev pub left8 : ℕ → Bool → ℕ
left8 a low = (2 * a + from_bool low) % 256

-- LSR, ROR and ASR: one place to the right; `high` becomes bit 7
abbrev pub right8 : ℕ → Bool → ℕ
right8 a high = a / 2 + 128 * from_bool high

-- DAA: corrects a sum of two pairs of decimal digits to such a pair, by its half carry and carry
abbrev pub low_correction : ℕ → Bool → ℕ
low_correction a half = if half || nat_lt 9 (a % 16) then 6 else 0

abbrev pub high_correction : ℕ → Bool → ℕ
high_correction a carry =
    if carry || nat_lt 9 (a / 16) || (nat_lt 8 (a / 16) && nat_lt 9 (a % 16)) then 96 else 0

abbrev pub corrected : ℕ → Bool → Bool → ℕ
corrected a half carry = a + low_correction a half + high_correction a carry

abbrev pub adjusted8 : ℕ → Bool → Bool → ℕ
adjusted8 a half carry = corrected a half carry % 256

-- MUL: the product of A and B, held in D
abbrev pub product : ℕ → ℕ → ℕ
product a b = a * b

-- SEX: B with its sign, held in D
abbrev pub extended : ℕ → ℕ
extended b = if nat_le 128 b then 65280 + b else b
