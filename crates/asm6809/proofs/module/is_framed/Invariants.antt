-- The statements that are left are right at the stage, if all are.
use Rattle.std.proofs.Common.{◌≡◌, map}
use Rattle.asm_lines.specs.Lines.{line_said}
use Rattle.asm6809.specs.Assembled.{actions_of, is_framed}
use Rattle.asm6809.proofs.StageLemmas.{is_rest, actions_at}
use Rattle.asm6809.proofs.module.is_framed.Given as goal

abbrev pub invariant-loop-line : goal.invariant-loop-line
invariant-loop-line l = is_rest l.stage (actions_at line_said l.lines l.line-index) ≡ is_framed (actions_of (map line_said l.lines))
