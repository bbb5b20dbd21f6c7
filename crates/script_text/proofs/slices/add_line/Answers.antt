-- Each word takes its slices to the total.
use Rattle.std.proofs.Common.{◌≡◌, false, arith, sym, ◌∙◌}
use Rattle.std.proofs.lemmas.Grind.{common_steps}
use Rattle.script_text.specs.Lines.{is_edged}
use Rattle.script_text.proofs.TotalLemmas.{line_total-refused, line_total-taken}
use Rattle.script_text.proofs.slices.add_line.Goals as goal

pub returns-in_err-total-clause-total : goal.returns-in_err-total-clause-total
returns-in_err-total-clause-total c =
    let inside : is_edged c.args.line.now ≡ false = grind (arith, common_steps) in
    let refused = line_total-refused c.args.total c.loop-word.total c.args.line.now _ _ _ inside c.requires
    c.loop-word.invariant.total c.in-Some.ensures.steps (sym c.in_err-total.was ∙ c.add_word.ensures.total) in
    cc

pub returns-clause-total : goal.returns-clause-total
returns-clause-total c =
    let inside : is_edged c.args.line.now ≡ false = grind (arith, common_steps) in
    line_total-taken c.args.total c.loop-word.total c.args.line.now _ inside c.requires c.loop-word.invariant.total c.in-None.ensures.steps.0
