-- The first statement is among the lines that are left.
use Rattle.std.proofs.Common.{◌≡◌, map}
use Rattle.asm_lines.specs.Lines.{line_said}
use Rattle.asm6809.specs.Assembled.{actions_of, first_start}
use Rattle.asm6809.proofs.StageLemmas.{actions_at}
use Rattle.asm6809.proofs.module.first_start.Given as goal

abbrev pub invariant-loop-line : goal.invariant-loop-line
invariant-loop-line l = first_start (actions_at line_said l.lines l.line-index) ≡ first_start (actions_of (map line_said l.lines))
