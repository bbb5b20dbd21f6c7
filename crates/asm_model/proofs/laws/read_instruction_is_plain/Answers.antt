use Rattle.asm_model.proofs.ReadPlain.{instr_plain}
use Rattle.asm_model.proofs.laws.read_instruction_is_plain.Goals as goal

pub returns : goal.returns
returns c = λ line at i is. instr_plain line at i is
