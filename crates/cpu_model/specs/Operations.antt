-- What instructions compute from their operands (MC6809 programming manual, appendix A).
use Rattle.std.specs.Prelude.{ℕ, ◌||◌, not, bit_and, bit_or, bit_xor, Bool, true, false}
use Rattle.cpu_model.specs.declared.flags.Flags.{Flags}
use Rattle.cpu_model.specs.declared.rows.Unary.{Unary}
use Rattle.cpu_model.specs.declared.rows.Unary.TheVariants.{Neg, Com, Lsr, Ror, Asr, Asl, Rol, Dec, Inc, Tst, Clr}
use Rattle.cpu_model.specs.declared.rows.Binary.{Binary}
use Rattle.cpu_model.specs.declared.rows.Binary.TheVariants.{Sub, Cmp, Sbc, And, Bit, Ld, Eor, Adc, Or, Add}
use Rattle.cpu_model.specs.declared.rows.WordBinary.{WordBinary}
use Rattle.cpu_model.specs.declared.rows.WordBinary.TheVariants as word
use Rattle.cpu_model.specs.declared.rows.Condition.{Condition}
use Rattle.cpu_model.specs.declared.rows.Condition.TheVariants.{Always, Never, Higher, LowerOrSame, CarryClear, CarrySet, NotEqual, Equal, OverflowClear, OverflowSet, Plus, Minus, GreaterOrEqual, Less, Greater, LessOrEqual}
use Rattle.cpu_model.specs.Arithmetic.{sum8, sum16, difference8, difference16, negative8, complement8, next8, previous8, left8, right8}
use Rattle.cpu_model.specs.Flags.{is_negative8, exclusive_or, add8_flags, add16_flags, sub8_flags, sub16_flags, logic8_flags, logic16_flags, neg8_flags, com8_flags, right8_flags, left8_flags, inc8_flags, dec8_flags, clr_flags}

-- ---- one byte

-- the new value of the byte; TST leaves it unchanged
abbrev pub unary_value : Unary → ℕ → Flags → ℕ
unary_value Neg a f = negative8 a
unary_value Com a f = complement8 a
unary_value Lsr a f = right8 a false
unary_value Ror a f = right8 a f.c
unary_value Asr a f = right8 a (is_negative8 a)
unary_value Asl a f = left8 a false
unary_value Rol a f = left8 a f.c
unary_value Dec a f = previous8 a
unary_value Inc a f = next8 a
unary_value Tst a f = a
unary_value Clr a f = 0

abbrev pub unary_flags : Unary → ℕ → Flags → Flags
unary_flags Neg a f = neg8_flags a f
unary_flags Com a f = com8_flags a f
unary_flags Lsr a f = right8_flags a false f
unary_flags Ror a f = right8_flags a f.c f
unary_flags Asr a f = right8_flags a (is_negative8 a) f
unary_flags Asl a f = left8_flags a false f
unary_flags Rol a f = left8_flags a f.c f
unary_flags Dec a f = dec8_flags a f
unary_flags Inc a f = inc8_flags a f
unary_flags Tst a f = logic8_flags a f
unary_flags Clr a f = clr_flags f

-- ---- an accumulator and a byte

-- the new value of the accumulator; CMP and BIT leave it unchanged
abbrev pub binary_value : Binary → ℕ → ℕ → Flags → ℕ
binary_value Sub a b f = difference8 a b false
binary_value Cmp a b f = a
binary_value Sbc a b f = difference8 a b f.c
binary_value And a b f = bit_and a b
binary_value Bit a b f = a
binary_value Ld a b f = b
binary_value Eor a b f = bit_xor a b
binary_value Adc a b f = sum8 a b f.c
binary_value Or a b f = bit_or a b
binary_value Add a b f = sum8 a b false

abbrev pub binary_flags : Binary → ℕ → ℕ → Flags → Flags
binary_flags Sub a b f = sub8_flags a b false f
binary_flags Cmp a b f = sub8_flags a b false f
binary_flags Sbc a b f = sub8_flags a b f.c f
binary_flags And a b f = logic8_flags (bit_and a b) f
binary_flags Bit a b f = logic8_flags (bit_and a b) f
binary_flags Ld a b f = logic8_flags b f
binary_flags Eor a b f = logic8_flags (bit_xor a b) f
binary_flags Adc a b f = add8_flags a b f.c f
binary_flags Or a b f = logic8_flags (bit_or a b) f
binary_flags Add a b f = add8_flags a b false f

-- ---- a register of sixteen bits and a word

-- the new value of the register; CMP leaves it unchanged
abbrev pub word_value : WordBinary → ℕ → ℕ → ℕ
word_value word.Sub a b = difference16 a b
word_value word.Cmp a b = a
word_value word.Add a b = sum16 a b
word_value word.Ld a b = b

abbrev pub word_flags : WordBinary → ℕ → ℕ → Flags → Flags
word_flags word.Sub a b f = sub16_flags a b f
word_flags word.Cmp a b f = sub16_flags a b f
word_flags word.Add a b f = add16_flags a b f
word_flags word.Ld a b f = logic16_flags b f

-- ---- branches

-- N differs from V
abbrev pub is_less : Flags → Bool
is_less f = exclusive_or f.n f.v

abbrev pub holds : Condition → Flags → Bool
holds Always f = true
holds Never f = false
holds Higher f = not (f.c || f.z)
holds LowerOrSame f = f.c || f.z
holds CarryClear f = not f.c
holds CarrySet f = f.c
holds NotEqual f = not f.z
holds Equal f = f.z
holds OverflowClear f = not f.v
holds OverflowSet f = f.v
holds Plus f = not f.n
holds Minus f = f.n
holds GreaterOrEqual f = not (is_less f)
holds Less f = is_less f
holds Greater f = not (f.z || is_less f)
holds LessOrEqual f = f.z || is_less f
