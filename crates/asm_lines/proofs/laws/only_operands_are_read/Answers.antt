use Rattle.asm_lines.proofs.Sound.{shape-formed}
use Rattle.asm_lines.proofs.laws.only_operands_are_read.Goals as goal

pub returns : goal.returns
returns c = λ word text s is. shape-formed word text s is
