use Rattle.std.proofs.Common.{refl}
use Rattle.proc_model.specs.CrcModel.{divided_once}
use Rattle.cpu_model.specs.Table.{row, postbyte, form_lines}
use Rattle.cpu_model.specs.BasePage.{base_page}
use Rattle.cpu_model.specs.TenPage.{ten_page}
use Rattle.cpu_model.specs.ElevenPage.{eleven_page}
use Rattle.cpu_model.specs.Reading.{reading}
use Rattle.asm_model.specs.Print.{printed}
use Rattle.asm_model.specs.Operands.{row_operand}
use Rattle.asm_model.specs.Instructions.{opcode_map, entry_of}
use Rattle.asm_model.specs.Statements.{line_read}
use Rattle.asm_model.specs.Placement.{source_fault}
use Rattle.asm6809.specs.Assembled.{outcome_of}
use Rattle.asm6809.proofs.worked.sources_are_assembled.Goals as goal

pub returns : goal.returns
unfolding opcode_map entry_of row_operand row postbyte form_lines base_page ten_page eleven_page printed reading line_read source_fault outcome_of divided_once
returns c = refl
