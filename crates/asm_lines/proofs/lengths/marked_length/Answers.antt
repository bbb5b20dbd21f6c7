-- The bit does not change the number of characters.
use Rattle.std.proofs.Common.{arith}
use Rattle.module_format.proofs.NameLemmas.{length-marked_name}
use Rattle.asm_lines.proofs.lengths.marked_length.Goals as goal

pub returns-clause-length : goal.returns-clause-length
returns-clause-length c = omega (arith, length-marked_name c.args.text.now)
