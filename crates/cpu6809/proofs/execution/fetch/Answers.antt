use Rattle.std.proofs.Common.{sym, ◌∙◌, arith}
use Rattle.cpu6809.proofs.Window.{one_more, no_more, all_fetched}
use Rattle.cpu6809.proofs.execution.fetch.Goals as goal

pub loop-k-preserved : goal.loop-k-preserved
loop-k-preserved g c = record {
  fetched =
      rw c.push.ensures.items
      (one_more _ _ _ _ _ _ _ c.loop-k-test.true (sym c.read.ensures ∙ c.in-Some.is) c.loop-k.invariant.fetched);
  count = omega arith;
}

pub returns-in-None : goal.returns-in-None
returns-in-None g c =
    no_more _ _ _ _ _ _ c.loop-k-test.true (sym c.read.ensures ∙ c.in-None.is) c.loop-k.invariant.fetched

pub returns : goal.returns
returns g c = all_fetched _ _ _ _ _ _ c.loop-k-test.false c.loop-k.invariant.fetched
