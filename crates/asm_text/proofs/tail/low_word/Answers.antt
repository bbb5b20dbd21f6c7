use Rattle.std.proofs.Common.{arith}
use Rattle.std.proofs.lemmas.Int.{ints}
use mir.Syntax.{w128}
use Rattle.asm_text.proofs.Values.{remainder-is, modulo-below}
use Rattle.asm_text.proofs.tail.low_word.Goals as goal

pub returns : goal.returns
returns c =
    omega
    (arith, ints, remainder-is w128 65536 c.args.value c.rem_euclid.result c.ranges.value c.rem_euclid.ensures.value, modulo-below 65536 c.args.value (omega arith))
