-- The opcode map: the opcodes after the prefix 10 (MC6809 programming manual, appendix B).
use Rattle.std.specs.Prelude.{List, [], ◌∷◌}
use Rattle.cpu_model.specs.Line.{Line, line}
use Rattle.cpu_model.specs.declared.rows.Operation.TheVariants.{Branch, StoreWord, Swi2, Word}
use Rattle.cpu_model.specs.declared.rows.Mode.TheVariants.{Inherent, Immediate16, Direct, Indexed, Extended, Relative16}
use Rattle.cpu_model.specs.declared.rows.Condition.TheVariants.{Never, Higher, LowerOrSame, CarryClear, CarrySet, NotEqual, Equal, OverflowClear, OverflowSet, Plus, Minus, GreaterOrEqual, Less, Greater, LessOrEqual}
use Rattle.cpu_model.specs.declared.rows.WordBinary.TheVariants as word
use Rattle.cpu_model.specs.declared.rows.WordRegister.TheVariants as reg

-- the opcodes after the prefix 10
unfoldable pub ten_page : List Line
ten_page =
    line 0x21 (Branch Never) Relative16 ∷
    line 0x22 (Branch Higher) Relative16 ∷
    line 0x23 (Branch LowerOrSame) Relative16 ∷
    line 0x24 (Branch CarryClear) Relative16 ∷
    line 0x25 (Branch CarrySet) Relative16 ∷
    line 0x26 (Branch NotEqual) Relative16 ∷
    line 0x27 (Branch Equal) Relative16 ∷
    line 0x28 (Branch OverflowClear) Relative16 ∷
    line 0x29 (Branch OverflowSet) Relative16 ∷
    line 0x2A (Branch Plus) Relative16 ∷
    line 0x2B (Branch Minus) Relative16 ∷
    line 0x2C (Branch GreaterOrEqual) Relative16 ∷
    line 0x2D (Branch Less) Relative16 ∷
    line 0x2E (Branch Greater) Relative16 ∷
    line 0x2F (Branch LessOrEqual) Relative16 ∷
    line 0x3F Swi2 Inherent ∷
    line 0x83 (Word word.Cmp reg.D) Immediate16 ∷
    line 0x8C (Word word.Cmp reg.Y) Immediate16 ∷
    line 0x8E (Word word.Ld reg.Y) Immediate16 ∷
    line 0x93 (Word word.Cmp reg.D) Direct ∷
    line 0x9C (Word word.Cmp reg.Y) Direct ∷
    line 0x9E (Word word.Ld reg.Y) Direct ∷
    line 0x9F (StoreWord reg.Y) Direct ∷
    line 0xA3 (Word word.Cmp reg.D) Indexed ∷
    line 0xAC (Word word.Cmp reg.Y) Indexed ∷
    line 0xAE (Word word.Ld reg.Y) Indexed ∷
    line 0xAF (StoreWord reg.Y) Indexed ∷
    line 0xB3 (Word word.Cmp reg.D) Extended ∷
    line 0xBC (Word word.Cmp reg.Y) Extended ∷
    line 0xBE (Word word.Ld reg.Y) Extended ∷
    line 0xBF (StoreWord reg.Y) Extended ∷
    line 0xCE (Word word.Ld reg.S) Immediate16 ∷
    line 0xDE (Word word.Ld reg.S) Direct ∷
    line 0xDF (StoreWord reg.S) Direct ∷
    line 0xEE (Word word.Ld reg.S) Indexed ∷
    line 0xEF (StoreWord reg.S) Indexed ∷
    line 0xFE (Word word.Ld reg.S) Extended ∷
    line 0xFF (StoreWord reg.S) Extended ∷
    []
