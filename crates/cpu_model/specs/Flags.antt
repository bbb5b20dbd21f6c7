-- The flags after each instruction of the MC6809 (programming manual, appendix A, "Condition codes" of each
-- instruction). A flag that a row does not name is unchanged, even if the manual calls it undefined.
use Rattle.std.specs.Prelude.{ℕ, ◌+◌, ◌*◌, ◌/◌, ◌%◌, ◌||◌, ◌==◌, not, nat_le, nat_lt, Bool, true, false, ℤ, pos, negsuc, ◌+ℤ◌, ◌-ℤ◌, int_lt, if◌then◌else◌}
use Rattle.std.specs.Int.{from_bool, cast_signed, w8, w16}
use Rattle.cpu_model.specs.declared.flags.Flags.{Flags}
use Rattle.cpu_model.specs.Arithmetic.{sum8, sum16, difference8, difference16, negative8, complement8, next8, previous8, left8, right8, corrected, adjusted8, product, extended}

-- ---- signs and bits

-- bit 7 of a byte, bit 15 of a word
abbrev pub is_negative8 : ℕ → Bool
is_negative8 a = nat_le 128 a

abbrev pub is_negative16 : ℕ → Bool
is_negative16 a = nat_le 32768 a

-- the bit of this weight
abbrev pub has_bit : ℕ → ℕ → Bool
has_bit weight a = a / weight % 2 == 1

abbrev pub exclusive_or : Bool → Bool → Bool
exclusive_or a b = if a then not b else b

-- the whole number that a byte or a word represents in two's complement
abbrev pub signed8 : ℕ → ℤ
signed8 a = cast_signed w8 a

abbrev pub signed16 : ℕ → ℤ
signed16 a = cast_signed w16 a

-- a whole number that no byte, or no word, represents in two's complement: signed overflow
abbrev pub overflows8 : ℤ → Bool
overflows8 z = int_lt z (negsuc 127) || int_lt (pos 127) z

abbrev pub overflows16 : ℤ → Bool
overflows16 z = int_lt z (negsuc 32767) || int_lt (pos 32767) z

-- ---- the rows

-- N and Z of a result
abbrev pub result8_flags : ℕ → Flags → Flags
result8_flags r f = record f { n = is_negative8 r; z = r == 0 }

abbrev pub result16_flags : ℕ → Flags → Flags
result16_flags r f = record f { n = is_negative16 r; z = r == 0 }

-- ADD and ADC
abbrev pub add8_flags : ℕ → ℕ → Bool → Flags → Flags
add8_flags a b carry f =
    record (result8_flags (sum8 a b carry) f) {
      h = nat_le 16 (a % 16 + b % 16 + from_bool carry);
      v = overflows8 (signed8 a +ℤ signed8 b +ℤ pos (from_bool carry));
      c = nat_le 256 (a + b + from_bool carry);
    }

-- ADDD
abbrev pub add16_flags : ℕ → ℕ → Flags → Flags
add16_flags a b f =
    record (result16_flags (sum16 a b) f) {
      v = overflows16 (signed16 a +ℤ signed16 b);
      c = nat_le 65536 (a + b);
    }

-- SUB, SBC and CMP of bytes
abbrev pub sub8_flags : ℕ → ℕ → Bool → Flags → Flags
sub8_flags a b borrow f =
    record (result8_flags (difference8 a b borrow) f) {
      v = overflows8 (signed8 a -ℤ signed8 b -ℤ pos (from_bool borrow));
      c = nat_lt a (b + from_bool borrow);
    }

-- SUBD and CMP of words
abbrev pub sub16_flags : ℕ → ℕ → Flags → Flags
sub16_flags a b f =
    record (result16_flags (difference16 a b) f) {
      v = overflows16 (signed16 a -ℤ signed16 b);
      c = nat_lt a b;
    }

-- AND, OR, EOR, BIT, LD and ST, and TST
abbrev pub logic8_flags : ℕ → Flags → Flags
logic8_flags r f = record (result8_flags r f) { v = false }

abbrev pub logic16_flags : ℕ → Flags → Flags
logic16_flags r f = record (result16_flags r f) { v = false }

-- NEG
abbrev pub neg8_flags : ℕ → Flags → Flags
neg8_flags a f = record (result8_flags (negative8 a) f) { v = a == 128; c = not (negative8 a == 0) }

-- COM
abbrev pub com8_flags : ℕ → Flags → Flags
com8_flags a f = record (result8_flags (complement8 a) f) { v = false; c = true }

-- LSR, ROR and ASR; `high` becomes bit 7
abbrev pub right8_flags : ℕ → Bool → Flags → Flags
right8_flags a high f = record (result8_flags (right8 a high) f) { c = has_bit 1 a }

-- ASL and ROL: `low` becomes bit 0, and V is bit 7 exclusive or bit 6
abbrev pub left8_flags : ℕ → Bool → Flags → Flags
left8_flags a low f =
    record (result8_flags (left8 a low) f) {
      v = exclusive_or (has_bit 128 a) (has_bit 64 a);
      c = has_bit 128 a;
    }

-- INC and DEC
abbrev pub inc8_flags : ℕ → Flags → Flags
inc8_flags a f = record (result8_flags (next8 a) f) { v = a == 127 }

abbrev pub dec8_flags : ℕ → Flags → Flags
dec8_flags a f = record (result8_flags (previous8 a) f) { v = a == 128 }

-- CLR
abbrev pub clr_flags : Flags → Flags
clr_flags f = record f { n = false; z = true; v = false; c = false }

-- DAA
abbrev pub daa_flags : ℕ → Flags → Flags
daa_flags a f =
    record (result8_flags (adjusted8 a f.h f.c) f) { c = f.c || nat_le 256 (corrected a f.h f.c) }

-- SEX
abbrev pub sex_flags : ℕ → Flags → Flags
sex_flags b f = result16_flags (extended b) f

-- MUL; C is bit 7 of the product's low byte
abbrev pub mul_flags : ℕ → ℕ → Flags → Flags
mul_flags a b f = record f { z = product a b == 0; c = is_negative8 (product a b % 256) }

-- LEAX and LEAY
abbrev pub lea_flags : ℕ → Flags → Flags
lea_flags address f = record f { z = address == 0 }

-- ---- the condition code register: E F H I N Z V C from bit 7 to bit 0

-- its flags
abbrev pub flags_of : ℕ → Flags
flags_of cc = record { h = has_bit 32 cc; n = has_bit 8 cc; z = has_bit 4 cc; v = has_bit 2 cc; c = has_bit 1 cc }

-- the register with these flags, and with E, F and I unchanged
abbrev pub cc_with : Flags → ℕ → ℕ
cc_with f cc =
    cc / 64 * 64 + 32 * from_bool f.h + cc / 16 % 2 * 16 + 8 * from_bool f.n + 4 * from_bool f.z
    + 2 * from_bool f.v + from_bool f.c
