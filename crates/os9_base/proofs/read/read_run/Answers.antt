use Rattle.std.proofs.Common.{sym, ◌∙◌, arith}
use Rattle.std.proofs.lemmas.List.{length-set}
use Rattle.os9_base.proofs.RunLemmas.{run-ends, run-more, IsReadTo-none, IsReadTo-all}
use Rattle.os9_base.proofs.read.read_run.Goals as goal

pub loop-count-init : goal.loop-count-init
loop-count-init g c = (IsReadTo-none (g.M.UserMem.cells c.args.memory.now) c.args.at 30 c.args.into.now, c.requires)

pub loop-count-preserved : goal.loop-count-preserved
loop-count-preserved g c = (
  run-more _ c.args.at 30 c.loop-count.count c.loop-count.into (omega arith) c.loop-count.invariant.0
      c.in_ok-byte.byte (sym c.in_ok-byte.ensures) (omega (arith, c.loop-count.invariant.1))
      (sym c.goes_on.ensures ∙ c.if-not-goes_on.false),
  length-set c.loop-count.into c.loop-count.count
      c.in_ok-byte.byte ∙ c.loop-count.invariant.1,
)

pub returns-then-not-goes_on-clause-some : goal.returns-then-not-goes_on-clause-some
returns-then-not-goes_on-clause-some g c =
    run-ends _ c.args.at 30 c.loop-count.count c.loop-count.into (omega arith) c.loop-count.invariant.0
    c.in_ok-byte.byte (sym c.in_ok-byte.ensures) (omega (arith, c.loop-count.invariant.1))
    (sym c.goes_on.ensures ∙ c.if-not-goes_on.true)

pub returns-clause-some : goal.returns-clause-some
returns-clause-some g c = IsReadTo-all _ c.args.at 30 c.loop-count.count c.loop-count.into (omega arith) c.loop-count.invariant.0
