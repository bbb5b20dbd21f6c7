-- The lines so far are reached.
use Rattle.asm_model.specs.Placement.{start}
use Rattle.asm_lines.specs.Lines.{line_said}
use Rattle.asm_lines.specs.Labels.{IsReached}
use Rattle.asm_lines.proofs.PassLemmas.{above_place}
use Rattle.asm_lines.proofs.reached.reached_by.Given as goal

abbrev pub invariant-loop-line : goal.invariant-loop-line
invariant-loop-line l = IsReached l.reached (above_place line_said start l.lines l.line-index)
