use Rattle.asm_lines.proofs.Complete.{line-read}
use Rattle.asm_lines.proofs.Stated.{read-states}
use Rattle.asm_lines.proofs.laws.instruction_is_stated.Goals as goal

pub returns : goal.returns
returns c = λ line at i is. read-states line at i (line-read line at i is)
