use Rattle.asm_lines.proofs.Complete.{line-read}
use Rattle.asm_lines.proofs.laws.instruction_is_read.Goals as goal

pub returns : goal.returns
returns c = λ line at i is. line-read line at i is
