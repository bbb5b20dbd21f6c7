use Rattle.asm_lines.proofs.Statements.{statement-formed}
use Rattle.asm_lines.proofs.laws.only_statements_are_read.Goals as goal

pub returns : goal.returns
returns c = λ line s is. statement-formed line s is
