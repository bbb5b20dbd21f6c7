use Rattle.std.proofs.Common.{refl}
use Rattle.cpu_model.specs.Table.{row, postbyte, form_lines}
use Rattle.cpu_model.specs.BasePage.{base_page}
use Rattle.cpu_model.specs.TenPage.{ten_page}
use Rattle.cpu_model.specs.ElevenPage.{eleven_page}
use Rattle.cpu_model.specs.Reading.{reading}
use Rattle.asm_model.specs.Print.{printed}
use Rattle.asm_model.specs.Operands.{row_operand}
use Rattle.asm_model.specs.Instructions.{opcode_map, entry_of}
use Rattle.asm_model.specs.Statements.{line_read}
use Rattle.asm_model.specs.Placement.{source_fault}
use Rattle.asm_model.proofs.worked.sources_break_rules.Goals as goal

pub returns-clause-hello : goal.returns-clause-hello
unfolding opcode_map entry_of row_operand row postbyte form_lines base_page ten_page eleven_page printed reading line_read source_fault
returns-clause-hello c = refl

pub returns-clause-no_text : goal.returns-clause-no_text
unfolding opcode_map entry_of row_operand row postbyte form_lines base_page ten_page eleven_page printed reading line_read source_fault
returns-clause-no_text c = refl

pub returns-clause-too_large : goal.returns-clause-too_large
unfolding opcode_map entry_of row_operand row postbyte form_lines base_page ten_page eleven_page printed reading line_read source_fault
returns-clause-too_large c = refl

pub returns-clause-two_labels : goal.returns-clause-two_labels
unfolding opcode_map entry_of row_operand row postbyte form_lines base_page ten_page eleven_page printed reading line_read source_fault
returns-clause-two_labels c = refl

pub returns-clause-two_starts : goal.returns-clause-two_starts
unfolding opcode_map entry_of row_operand row postbyte form_lines base_page ten_page eleven_page printed reading line_read source_fault
returns-clause-two_starts c = refl

pub returns-clause-below : goal.returns-clause-below
unfolding opcode_map entry_of row_operand row postbyte form_lines base_page ten_page eleven_page printed reading line_read source_fault
returns-clause-below c = refl

pub returns-clause-two_rules : goal.returns-clause-two_rules
unfolding opcode_map entry_of row_operand row postbyte form_lines base_page ten_page eleven_page printed reading line_read source_fault
returns-clause-two_rules c = refl

pub returns-clause-three_rules : goal.returns-clause-three_rules
unfolding opcode_map entry_of row_operand row postbyte form_lines base_page ten_page eleven_page printed reading line_read source_fault
returns-clause-three_rules c = refl
