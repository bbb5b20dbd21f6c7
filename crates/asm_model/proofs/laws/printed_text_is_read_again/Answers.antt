use Rattle.asm_model.proofs.Printed.{printed_back}
use Rattle.asm_model.proofs.laws.printed_text_is_read_again.Goals as goal

pub returns : goal.returns
returns c = λ i at plainly bytes. printed_back i at plainly bytes.post bytes.tail
