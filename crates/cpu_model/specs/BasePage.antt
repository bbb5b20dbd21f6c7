-- The opcode map: the opcodes without a prefix (MC6809 programming manual, appendix B).
use Rattle.std.specs.Prelude.{List, [], ◌∷◌}
use Rattle.cpu_model.specs.Line.{Line, line}
use Rattle.cpu_model.specs.declared.rows.Operation.TheVariants.{Abx, Andcc, Binary, Branch, Bsr, Cwai, Daa, Exg, Jmp, Jsr, Lea, Mul, Nop, Orcc, Psh, Pul, Rti, Rts, Sex, Store, StoreWord, Swi, Sync, Tfr, Unary, UnaryOn, Word}
use Rattle.cpu_model.specs.declared.rows.Mode.TheVariants.{Inherent, Immediate8, Immediate16, Direct, Indexed, Extended, Relative8, Relative16, Pair}
use Rattle.cpu_model.specs.declared.rows.Condition.TheVariants.{Always, Never, Higher, LowerOrSame, CarryClear, CarrySet, NotEqual, Equal, OverflowClear, OverflowSet, Plus, Minus, GreaterOrEqual, Less, Greater, LessOrEqual}
use Rattle.cpu_model.specs.declared.rows.Stack.TheVariants.{System, User}
use Rattle.cpu_model.specs.declared.rows.Unary.TheVariants as unary
use Rattle.cpu_model.specs.declared.rows.Binary.TheVariants as binary
use Rattle.cpu_model.specs.declared.rows.WordBinary.TheVariants as word
use Rattle.cpu_model.specs.declared.rows.Accumulator.TheVariants as acc
use Rattle.cpu_model.specs.declared.rows.WordRegister.TheVariants as reg
use Rattle.cpu_model.specs.declared.rows.IndexRegister.TheVariants as index

-- the opcodes without a prefix
unfoldable pub base_page : List Line
base_page =
    line 0x00 (Unary unary.Neg) Direct ∷
    line 0x03 (Unary unary.Com) Direct ∷
    line 0x04 (Unary unary.Lsr) Direct ∷
    line 0x06 (Unary unary.Ror) Direct ∷
    line 0x07 (Unary unary.Asr) Direct ∷
    line 0x08 (Unary unary.Asl) Direct ∷
    line 0x09 (Unary unary.Rol) Direct ∷
    line 0x0A (Unary unary.Dec) Direct ∷
    line 0x0C (Unary unary.Inc) Direct ∷
    line 0x0D (Unary unary.Tst) Direct ∷
    line 0x0E Jmp Direct ∷
    line 0x0F (Unary unary.Clr) Direct ∷
    line 0x12 Nop Inherent ∷
    line 0x13 Sync Inherent ∷
    line 0x16 (Branch Always) Relative16 ∷
    line 0x17 Bsr Relative16 ∷
    line 0x19 Daa Inherent ∷
    line 0x1A Orcc Immediate8 ∷
    line 0x1C Andcc Immediate8 ∷
    line 0x1D Sex Inherent ∷
    line 0x1E Exg Pair ∷
    line 0x1F Tfr Pair ∷
    line 0x20 (Branch Always) Relative8 ∷
    line 0x21 (Branch Never) Relative8 ∷
    line 0x22 (Branch Higher) Relative8 ∷
    line 0x23 (Branch LowerOrSame) Relative8 ∷
    line 0x24 (Branch CarryClear) Relative8 ∷
    line 0x25 (Branch CarrySet) Relative8 ∷
    line 0x26 (Branch NotEqual) Relative8 ∷
    line 0x27 (Branch Equal) Relative8 ∷
    line 0x28 (Branch OverflowClear) Relative8 ∷
    line 0x29 (Branch OverflowSet) Relative8 ∷
    line 0x2A (Branch Plus) Relative8 ∷
    line 0x2B (Branch Minus) Relative8 ∷
    line 0x2C (Branch GreaterOrEqual) Relative8 ∷
    line 0x2D (Branch Less) Relative8 ∷
    line 0x2E (Branch Greater) Relative8 ∷
    line 0x2F (Branch LessOrEqual) Relative8 ∷
    line 0x30 (Lea index.X) Indexed ∷
    line 0x31 (Lea index.Y) Indexed ∷
    line 0x32 (Lea index.S) Indexed ∷
    line 0x33 (Lea index.U) Indexed ∷
    line 0x34 (Psh System) Immediate8 ∷
    line 0x35 (Pul System) Immediate8 ∷
    line 0x36 (Psh User) Immediate8 ∷
    line 0x37 (Pul User) Immediate8 ∷
    line 0x39 Rts Inherent ∷
    line 0x3A Abx Inherent ∷
    line 0x3B Rti Inherent ∷
    line 0x3C Cwai Immediate8 ∷
    line 0x3D Mul Inherent ∷
    line 0x3F Swi Inherent ∷
    line 0x40 (UnaryOn unary.Neg acc.A) Inherent ∷
    line 0x43 (UnaryOn unary.Com acc.A) Inherent ∷
    line 0x44 (UnaryOn unary.Lsr acc.A) Inherent ∷
    line 0x46 (UnaryOn unary.Ror acc.A) Inherent ∷
    line 0x47 (UnaryOn unary.Asr acc.A) Inherent ∷
    line 0x48 (UnaryOn unary.Asl acc.A) Inherent ∷
    line 0x49 (UnaryOn unary.Rol acc.A) Inherent ∷
    line 0x4A (UnaryOn unary.Dec acc.A) Inherent ∷
    line 0x4C (UnaryOn unary.Inc acc.A) Inherent ∷
    line 0x4D (UnaryOn unary.Tst acc.A) Inherent ∷
    line 0x4F (UnaryOn unary.Clr acc.A) Inherent ∷
    line 0x50 (UnaryOn unary.Neg acc.B) Inherent ∷
    line 0x53 (UnaryOn unary.Com acc.B) Inherent ∷
    line 0x54 (UnaryOn unary.Lsr acc.B) Inherent ∷
    line 0x56 (UnaryOn unary.Ror acc.B) Inherent ∷
    line 0x57 (UnaryOn unary.Asr acc.B) Inherent ∷
    line 0x58 (UnaryOn unary.Asl acc.B) Inherent ∷
    line 0x59 (UnaryOn unary.Rol acc.B) Inherent ∷
    line 0x5A (UnaryOn unary.Dec acc.B) Inherent ∷
    line 0x5C (UnaryOn unary.Inc acc.B) Inherent ∷
    line 0x5D (UnaryOn unary.Tst acc.B) Inherent ∷
    line 0x5F (UnaryOn unary.Clr acc.B) Inherent ∷
    line 0x60 (Unary unary.Neg) Indexed ∷
    line 0x63 (Unary unary.Com) Indexed ∷
    line 0x64 (Unary unary.Lsr) Indexed ∷
    line 0x66 (Unary unary.Ror) Indexed ∷
    line 0x67 (Unary unary.Asr) Indexed ∷
    line 0x68 (Unary unary.Asl) Indexed ∷
    line 0x69 (Unary unary.Rol) Indexed ∷
    line 0x6A (Unary unary.Dec) Indexed ∷
    line 0x6C (Unary unary.Inc) Indexed ∷
    line 0x6D (Unary unary.Tst) Indexed ∷
    line 0x6E Jmp Indexed ∷
    line 0x6F (Unary unary.Clr) Indexed ∷
    line 0x70 (Unary unary.Neg) Extended ∷
    line 0x73 (Unary unary.Com) Extended ∷
    line 0x74 (Unary unary.Lsr) Extended ∷
    line 0x76 (Unary unary.Ror) Extended ∷
    line 0x77 (Unary unary.Asr) Extended ∷
    line 0x78 (Unary unary.Asl) Extended ∷
    line 0x79 (Unary unary.Rol) Extended ∷
    line 0x7A (Unary unary.Dec) Extended ∷
    line 0x7C (Unary unary.Inc) Extended ∷
    line 0x7D (Unary unary.Tst) Extended ∷
    line 0x7E Jmp Extended ∷
    line 0x7F (Unary unary.Clr) Extended ∷
    line 0x80 (Binary binary.Sub acc.A) Immediate8 ∷
    line 0x81 (Binary binary.Cmp acc.A) Immediate8 ∷
    line 0x82 (Binary binary.Sbc acc.A) Immediate8 ∷
    line 0x83 (Word word.Sub reg.D) Immediate16 ∷
    line 0x84 (Binary binary.And acc.A) Immediate8 ∷
    line 0x85 (Binary binary.Bit acc.A) Immediate8 ∷
    line 0x86 (Binary binary.Ld acc.A) Immediate8 ∷
    line 0x88 (Binary binary.Eor acc.A) Immediate8 ∷
    line 0x89 (Binary binary.Adc acc.A) Immediate8 ∷
    line 0x8A (Binary binary.Or acc.A) Immediate8 ∷
    line 0x8B (Binary binary.Add acc.A) Immediate8 ∷
    line 0x8C (Word word.Cmp reg.X) Immediate16 ∷
    line 0x8D Bsr Relative8 ∷
    line 0x8E (Word word.Ld reg.X) Immediate16 ∷
    line 0x90 (Binary binary.Sub acc.A) Direct ∷
    line 0x91 (Binary binary.Cmp acc.A) Direct ∷
    line 0x92 (Binary binary.Sbc acc.A) Direct ∷
    line 0x93 (Word word.Sub reg.D) Direct ∷
    line 0x94 (Binary binary.And acc.A) Direct ∷
    line 0x95 (Binary binary.Bit acc.A) Direct ∷
    line 0x96 (Binary binary.Ld acc.A) Direct ∷
    line 0x97 (Store acc.A) Direct ∷
    line 0x98 (Binary binary.Eor acc.A) Direct ∷
    line 0x99 (Binary binary.Adc acc.A) Direct ∷
    line 0x9A (Binary binary.Or acc.A) Direct ∷
    line 0x9B (Binary binary.Add acc.A) Direct ∷
    line 0x9C (Word word.Cmp reg.X) Direct ∷
    line 0x9D Jsr Direct ∷
    line 0x9E (Word word.Ld reg.X) Direct ∷
    line 0x9F (StoreWord reg.X) Direct ∷
    line 0xA0 (Binary binary.Sub acc.A) Indexed ∷
    line 0xA1 (Binary binary.Cmp acc.A) Indexed ∷
    line 0xA2 (Binary binary.Sbc acc.A) Indexed ∷
    line 0xA3 (Word word.Sub reg.D) Indexed ∷
    line 0xA4 (Binary binary.And acc.A) Indexed ∷
    line 0xA5 (Binary binary.Bit acc.A) Indexed ∷
    line 0xA6 (Binary binary.Ld acc.A) Indexed ∷
    line 0xA7 (Store acc.A) Indexed ∷
    line 0xA8 (Binary binary.Eor acc.A) Indexed ∷
    line 0xA9 (Binary binary.Adc acc.A) Indexed ∷
    line 0xAA (Binary binary.Or acc.A) Indexed ∷
    line 0xAB (Binary binary.Add acc.A) Indexed ∷
    line 0xAC (Word word.Cmp reg.X) Indexed ∷
    line 0xAD Jsr Indexed ∷
    line 0xAE (Word word.Ld reg.X) Indexed ∷
    line 0xAF (StoreWord reg.X) Indexed ∷
    line 0xB0 (Binary binary.Sub acc.A) Extended ∷
    line 0xB1 (Binary binary.Cmp acc.A) Extended ∷
    line 0xB2 (Binary binary.Sbc acc.A) Extended ∷
    line 0xB3 (Word word.Sub reg.D) Extended ∷
    line 0xB4 (Binary binary.And acc.A) Extended ∷
    line 0xB5 (Binary binary.Bit acc.A) Extended ∷
    line 0xB6 (Binary binary.Ld acc.A) Extended ∷
    line 0xB7 (Store acc.A) Extended ∷
    line 0xB8 (Binary binary.Eor acc.A) Extended ∷
    line 0xB9 (Binary binary.Adc acc.A) Extended ∷
    line 0xBA (Binary binary.Or acc.A) Extended ∷
    line 0xBB (Binary binary.Add acc.A) Extended ∷
    line 0xBC (Word word.Cmp reg.X) Extended ∷
    line 0xBD Jsr Extended ∷
    line 0xBE (Word word.Ld reg.X) Extended ∷
    line 0xBF (StoreWord reg.X) Extended ∷
    line 0xC0 (Binary binary.Sub acc.B) Immediate8 ∷
    line 0xC1 (Binary binary.Cmp acc.B) Immediate8 ∷
    line 0xC2 (Binary binary.Sbc acc.B) Immediate8 ∷
    line 0xC3 (Word word.Add reg.D) Immediate16 ∷
    line 0xC4 (Binary binary.And acc.B) Immediate8 ∷
    line 0xC5 (Binary binary.Bit acc.B) Immediate8 ∷
    line 0xC6 (Binary binary.Ld acc.B) Immediate8 ∷
    line 0xC8 (Binary binary.Eor acc.B) Immediate8 ∷
    line 0xC9 (Binary binary.Adc acc.B) Immediate8 ∷
    line 0xCA (Binary binary.Or acc.B) Immediate8 ∷
    line 0xCB (Binary binary.Add acc.B) Immediate8 ∷
    line 0xCC (Word word.Ld reg.D) Immediate16 ∷
    line 0xCE (Word word.Ld reg.U) Immediate16 ∷
    line 0xD0 (Binary binary.Sub acc.B) Direct ∷
    line 0xD1 (Binary binary.Cmp acc.B) Direct ∷
    line 0xD2 (Binary binary.Sbc acc.B) Direct ∷
    line 0xD3 (Word word.Add reg.D) Direct ∷
    line 0xD4 (Binary binary.And acc.B) Direct ∷
    line 0xD5 (Binary binary.Bit acc.B) Direct ∷
    line 0xD6 (Binary binary.Ld acc.B) Direct ∷
    line 0xD7 (Store acc.B) Direct ∷
    line 0xD8 (Binary binary.Eor acc.B) Direct ∷
    line 0xD9 (Binary binary.Adc acc.B) Direct ∷
    line 0xDA (Binary binary.Or acc.B) Direct ∷
    line 0xDB (Binary binary.Add acc.B) Direct ∷
    line 0xDC (Word word.Ld reg.D) Direct ∷
    line 0xDD (StoreWord reg.D) Direct ∷
    line 0xDE (Word word.Ld reg.U) Direct ∷
    line 0xDF (StoreWord reg.U) Direct ∷
    line 0xE0 (Binary binary.Sub acc.B) Indexed ∷
    line 0xE1 (Binary binary.Cmp acc.B) Indexed ∷
    line 0xE2 (Binary binary.Sbc acc.B) Indexed ∷
    line 0xE3 (Word word.Add reg.D) Indexed ∷
    line 0xE4 (Binary binary.And acc.B) Indexed ∷
    line 0xE5 (Binary binary.Bit acc.B) Indexed ∷
    line 0xE6 (Binary binary.Ld acc.B) Indexed ∷
    line 0xE7 (Store acc.B) Indexed ∷
    line 0xE8 (Binary binary.Eor acc.B) Indexed ∷
    line 0xE9 (Binary binary.Adc acc.B) Indexed ∷
    line 0xEA (Binary binary.Or acc.B) Indexed ∷
    line 0xEB (Binary binary.Add acc.B) Indexed ∷
    line 0xEC (Word word.Ld reg.D) Indexed ∷
    line 0xED (StoreWord reg.D) Indexed ∷
    line 0xEE (Word word.Ld reg.U) Indexed ∷
    line 0xEF (StoreWord reg.U) Indexed ∷
    line 0xF0 (Binary binary.Sub acc.B) Extended ∷
    line 0xF1 (Binary binary.Cmp acc.B) Extended ∷
    line 0xF2 (Binary binary.Sbc acc.B) Extended ∷
    line 0xF3 (Word word.Add reg.D) Extended ∷
    line 0xF4 (Binary binary.And acc.B) Extended ∷
    line 0xF5 (Binary binary.Bit acc.B) Extended ∷
    line 0xF6 (Binary binary.Ld acc.B) Extended ∷
    line 0xF7 (Store acc.B) Extended ∷
    line 0xF8 (Binary binary.Eor acc.B) Extended ∷
    line 0xF9 (Binary binary.Adc acc.B) Extended ∷
    line 0xFA (Binary binary.Or acc.B) Extended ∷
    line 0xFB (Binary binary.Add acc.B) Extended ∷
    line 0xFC (Word word.Ld reg.D) Extended ∷
    line 0xFD (StoreWord reg.D) Extended ∷
    line 0xFE (Word word.Ld reg.U) Extended ∷
    line 0xFF (StoreWord reg.U) Extended ∷
    []
