use Rattle.std.proofs.Common.{◌≡◌, ℕ, Some, None, refl, sym, ◌∙◌}
use Rattle.std.specs.Prelude.{codes}
use Rattle.cpu_model.specs.Table.{row, postbyte, form_lines}
use Rattle.cpu_model.specs.BasePage.{base_page}
use Rattle.cpu_model.specs.TenPage.{ten_page}
use Rattle.cpu_model.specs.ElevenPage.{eleven_page}
use Rattle.asm_model.specs.Operands.{row_operand}
use Rattle.asm_model.specs.Instructions.{opcode_map, entry_of, instr_of}
use Rattle.asm_lines.proofs.Complete.{line-read}
use Rattle.asm_lines.proofs.laws.empty_brackets_are_refused.Goals as goal

nothing-read : (at : ℕ) → instr_of (codes "lda []") at ≡ None
unfolding opcode_map entry_of row_operand row postbyte form_lines base_page ten_page eleven_page
nothing-read at = refl

pub returns : goal.returns
returns c = λ at i is. let none : None ≡ Some i = sym (nothing-read at) ∙ line-read (codes "lda []") at i is in absurd (cc)
