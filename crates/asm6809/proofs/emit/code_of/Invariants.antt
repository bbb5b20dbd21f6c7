-- The code so far.
use Rattle.asm_model.specs.Placement.{Reached}
use Rattle.asm_lines.specs.Lines.{line_said}
use Rattle.asm_lines.specs.Labels.{IsReached}
use Rattle.asm6809.proofs.CodeLemmas.{IsSoFar}
use Rattle.asm6809.proofs.emit.code_of.Given as goal

abbrev pub invariant-loop-line : goal.invariant-loop-line
invariant-loop-line l = (m : Reached) → IsReached l.all m → IsSoFar line_said m l.lines l.line-index l.offset l.code.items
