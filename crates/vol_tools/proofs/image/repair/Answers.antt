-- The lost clusters are few, and their marks have been cleared.
use Rattle.std.proofs.Common.{arith}
use Rattle.vol_tools.proofs.Freed.{few_lost}
use Rattle.vol_tools.proofs.Outcome.{repaired_of}
use Rattle.vol_tools.proofs.image.repair.Goals as goal

pub overflow_cast-result : goal.overflow_cast-result
overflow_cast-result c =
    let few = few_lost _ c.in_ok-lost.lost.items c.in_ok-lost.ensures.list in
    omega (arith, few)

pub returns-clause-repaired : goal.returns-clause-repaired
returns-clause-repaired c =
    repaired_of c.args.image.items _ c.in_ok-lost.lost.items _ (record { image = c.clear_marks.new.image; freed = c.len.result })
    c.deref.ensures.value c.in_ok-lost.ensures.list c.deref-2.ensures.value c.clear_marks.ensures (omega arith)
