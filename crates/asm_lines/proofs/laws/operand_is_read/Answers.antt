use Rattle.asm_lines.proofs.Complete.{shape-read}
use Rattle.asm_lines.proofs.laws.operand_is_read.Goals as goal

pub returns : goal.returns
returns c = λ word text s is. shape-read word text s is
