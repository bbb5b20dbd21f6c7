use Rattle.asm_lines.proofs.Stated.{stated-read}
use Rattle.asm_lines.proofs.laws.stated_instruction_is_read.Goals as goal

pub returns : goal.returns
returns c = λ line name s at is. stated-read line name s at is
