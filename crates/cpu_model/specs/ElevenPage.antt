-- The opcode map: the opcodes after the prefix 11 (MC6809 programming manual, appendix B).
use Rattle.std.specs.Prelude.{List, [], ◌∷◌}
use Rattle.cpu_model.specs.Line.{Line, line}
use Rattle.cpu_model.specs.declared.rows.Operation.TheVariants.{Swi3, Word}
use Rattle.cpu_model.specs.declared.rows.Mode.TheVariants.{Inherent, Immediate16, Direct, Indexed, Extended}
use Rattle.cpu_model.specs.declared.rows.WordBinary.TheVariants as word
use Rattle.cpu_model.specs.declared.rows.WordRegister.TheVariants as reg

-- the opcodes after the prefix 11
unfoldable pub eleven_page : List Line
eleven_page =
    line 0x3F Swi3 Inherent ∷
    line 0x83 (Word word.Cmp reg.U) Immediate16 ∷
    line 0x8C (Word word.Cmp reg.S) Immediate16 ∷
    line 0x93 (Word word.Cmp reg.U) Direct ∷
    line 0x9C (Word word.Cmp reg.S) Direct ∷
    line 0xA3 (Word word.Cmp reg.U) Indexed ∷
    line 0xAC (Word word.Cmp reg.S) Indexed ∷
    line 0xB3 (Word word.Cmp reg.U) Extended ∷
    line 0xBC (Word word.Cmp reg.S) Extended ∷
    []
