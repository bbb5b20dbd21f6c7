use Rattle.asm_lines.proofs.Sound.{line-formed}
use Rattle.asm_lines.proofs.laws.only_instructions_are_read.Goals as goal

pub returns : goal.returns
returns c = λ line at i is. line-formed line at i is
