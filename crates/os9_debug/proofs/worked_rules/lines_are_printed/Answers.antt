use Rattle.std.proofs.Common.{refl}
use Rattle.cpu_model.specs.Table.{row, postbyte, form_lines}
use Rattle.cpu_model.specs.BasePage.{base_page}
use Rattle.cpu_model.specs.TenPage.{ten_page}
use Rattle.cpu_model.specs.ElevenPage.{eleven_page}
use Rattle.cpu_model.specs.Reading.{reading}
use Rattle.asm_model.specs.Print.{printed}
use Rattle.os9_debug.proofs.worked_rules.lines_are_printed.Goals as goal

pub returns-clause-instruction : goal.returns-clause-instruction
unfolding row postbyte form_lines base_page ten_page eleven_page printed reading
returns-clause-instruction c = refl

pub returns-clause-cut_off : goal.returns-clause-cut_off
unfolding row postbyte form_lines base_page ten_page eleven_page printed reading
returns-clause-cut_off c = refl
