use Rattle.std.proofs.Common.{arith}
use Rattle.proc_calls.proofs.crc.register_in.Goals as goal

pub returns-clause-below : goal.returns-clause-below
returns-clause-below c = omega (arith, c.read_u24.ensures, c.type_inv.accumulator 0, c.type_inv.accumulator 1, c.type_inv.accumulator 2)
