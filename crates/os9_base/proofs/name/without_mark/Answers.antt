use Rattle.std.proofs.Common.{◌<◌, rules, arith}
use Rattle.std.proofs.lemmas.List.{length-map}
use Rattle.os9_base.specs.Name.{low_bits}
use Rattle.os9_base.proofs.NameLemmas.{fill-more}
use Rattle.os9_base.proofs.name.without_mark.Goals as goal

pub loop-i-preserved : goal.loop-i-preserved
loop-i-preserved c =
    let e = c.low_bits.ensures.value in
    let room : c.loop-i.i < 29 = omega (arith, length-map c.args.run.now low_bits, c.requires.short) in
    rw e (fill-more c.args.run.now c.loop-i.characters c.loop-i.i (search rules) room c.loop-i.invariant)
