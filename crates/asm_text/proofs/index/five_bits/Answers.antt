use Rattle.std.proofs.Common.{arith}
use Rattle.std.proofs.lemmas.Int.{ints}
use mir.Syntax.{w32}
use Rattle.asm_text.proofs.Values.{remainder-is, modulo-below}
use Rattle.asm_text.proofs.index.five_bits.Goals as goal

pub returns-clause-bits : goal.returns-clause-bits
returns-clause-bits c =
    omega
    (arith, ints, remainder-is w32 32 c.args.value c.rem_euclid.result c.ranges.value c.rem_euclid.ensures.value, modulo-below 32 c.args.value (omega arith))
