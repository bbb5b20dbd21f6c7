-- Each line is the next.
use Rattle.asm_model.specs.Placement.{start}
use Rattle.asm_lines.specs.Lines.{line_said}
use Rattle.asm_lines.proofs.PassLemmas.{reached-next, reached-all}
use Rattle.asm_lines.proofs.reached.reached_by.Goals as goal

pub loop-line-preserved : goal.loop-line-preserved
loop-line-preserved c =
    reached-next line_said start c.args.lines.now c.loop-line.line-index _ c.loop-line-test.true _ (c.in_ok-add_line.ensures _ c.loop-line.invariant)

pub returns : goal.returns
returns c = reached-all line_said start c.args.lines.now c.loop-line.line-index c.loop-line-test.false _ c.loop-line.invariant
