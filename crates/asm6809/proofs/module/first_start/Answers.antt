-- Lines without a statement are passed over.
use Rattle.std.proofs.Common.{ap, ◌∙◌}
use Rattle.asm_lines.specs.Lines.{line_said, statement_said}
use Rattle.asm6809.proofs.StageLemmas.{not-stated, start-here, start-next}
use Rattle.asm6809.proofs.module.first_start.Goals as goal

pub returns-in-Stated : goal.returns-in-Stated
returns-in-Stated c =
    c.start_of.ensures
    ∙ start-here line_said c.args.lines.now c.loop-line.line-index _ c.loop-line-test.true _ c.loop-line.invariant (statement_said c.in-Stated.statement) (ap line_said c.in-Stated.is)

pub loop-line-preserved : goal.loop-line-preserved
loop-line-preserved c =
    start-next line_said c.args.lines.now c.loop-line.line-index _ c.loop-line-test.true _ c.loop-line.invariant (not-stated _ c.in_default.not-Stated _)
