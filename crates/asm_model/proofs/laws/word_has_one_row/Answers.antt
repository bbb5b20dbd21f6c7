use Rattle.asm_model.proofs.Entries.{entry_found}
use Rattle.asm_model.proofs.laws.word_has_one_row.Goals as goal

pub returns : goal.returns
returns c = λ page opcode r mark is passes. entry_found page opcode r is mark passes
