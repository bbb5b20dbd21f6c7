use Rattle.asm_lines.proofs.Statements.{statement-read}
use Rattle.asm_lines.proofs.laws.statement_is_read.Goals as goal

pub returns : goal.returns
returns c = λ line s is. statement-read line s is
