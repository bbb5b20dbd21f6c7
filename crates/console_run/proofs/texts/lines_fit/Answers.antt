use Rattle.std.proofs.Common.{◌≤◌, length, rules, refl, sym, ◌∙◌}
use Rattle.console_run.proofs.FitLemmas.{fits-end, fits-no, keys-fit, keys-no}
use Rattle.console_run.proofs.texts.lines_fit.Goals as goal

pub loop-line-init : goal.loop-line-init
loop-line-init c = refl

pub returns-then-not-line_fits-clause-other : goal.returns-then-not-line_fits-clause-other
returns-then-not-line_fits-clause-other c = λ _.
    keys-no c.args.lines.now
    (fits-no c.args.lines.now c.loop-line.line-index c.loop-line.room c.loop-line.last c.line-item.result _
    c.loop-line-test.true c.line-item.is c.loop-line.invariant
    (sym c.line_fits.ensures ∙ c.if-not-line_fits.true))

pub returns-clause-fits : goal.returns-clause-fits
returns-clause-fits c = λ _.
    let all : length c.args.lines.now ≤ c.loop-line.line-index = search rules in
    keys-fit c.args.lines.now (fits-end c.args.lines.now c.loop-line.line-index c.loop-line.room c.loop-line.last _ all c.loop-line.invariant)
