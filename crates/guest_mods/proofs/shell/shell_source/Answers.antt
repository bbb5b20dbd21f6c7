use Rattle.std.proofs.Common.{refl}
use Rattle.cpu_model.specs.Table.{row, postbyte, form_lines}
use Rattle.cpu_model.specs.BasePage.{base_page}
use Rattle.cpu_model.specs.TenPage.{ten_page}
use Rattle.cpu_model.specs.ElevenPage.{eleven_page}
use Rattle.asm_model.specs.Operands.{row_operand}
use Rattle.asm_model.specs.Instructions.{opcode_map, entry_of}
use Rattle.asm_model.specs.Statements.{line_read}
use Rattle.asm_model.specs.Placement.{source_fault}
use Rattle.guest_mods.proofs.shell.shell_source.Goals as goal

pub returns : goal.returns
unfolding opcode_map entry_of row_operand row postbyte form_lines base_page ten_page eleven_page line_read source_fault
returns c = record { right = refl }
