-- Each line is the next.
use Rattle.std.proofs.Common.{sym, ◌∙◌}
use Rattle.asm_lines.specs.Lines.{line_said}
use Rattle.asm6809.proofs.StageLemmas.{stage-next, stage-none}
use Rattle.asm6809.proofs.module.is_framed.Goals as goal

pub loop-line-preserved : goal.loop-line-preserved
loop-line-preserved c =
    stage-next line_said c.args.lines.now c.loop-line.line-index _ c.loop-line-test.true c.loop-line.stage _ _ (sym c.stage_after.ensures ∙ c.in-Some.is) c.loop-line.invariant

pub returns-in_default : goal.returns-in_default
returns-in_default c =
    stage-none line_said c.args.lines.now c.loop-line.line-index _ c.loop-line-test.true c.loop-line.stage _ (sym c.stage_after.ensures ∙ c.in_default.is) c.loop-line.invariant
