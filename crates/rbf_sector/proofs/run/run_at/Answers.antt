use Rattle.std.proofs.Common.{◌∙◌, arith}
use Rattle.rbf_sector.proofs.RunAt.{none_here, none_left, one_further, run_here}
use Rattle.rbf_sector.proofs.run.run_at.Goals as goal

pub returns-then-count-eq0 : goal.returns-then-count-eq0
returns-then-count-eq0 c =
    none_here c.args.b.now c.args.place c.loop-i.i c.loop-i.left c.from-count.result c.loop-i.invariant c.loop-i-test.true
    (c.from-count.ensures ∙ c.u16_at.ensures) c.if-count-eq0.true

pub returns-then-left-count : goal.returns-then-left-count
returns-then-left-count c =
    run_here c.args.b.now c.args.place c.loop-i.i c.loop-i.left c.from-count.result c.loop-i.invariant c.loop-i-test.true
    (c.from-count.ensures ∙ c.u16_at.ensures) c.if-count-eq0.false c.u24_at.result c.u24_at.ensures.value c.if-left-count.true

pub loop-i-preserved : goal.loop-i-preserved
loop-i-preserved c =
    one_further c.args.b.now c.args.place c.loop-i.i c.loop-i.left c.from-count.result c.loop-i.invariant c.loop-i-test.true
    (c.from-count.ensures ∙ c.u16_at.ensures) c.if-count-eq0.false c.if-left-count.false

pub returns : goal.returns
returns c = none_left c.args.b.now c.args.place c.loop-i.i c.loop-i.left c.loop-i.invariant (omega arith)
