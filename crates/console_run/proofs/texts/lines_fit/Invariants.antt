-- The lines that are left fit if and only if all lines fit.
use Rattle.std.proofs.Common.{◌≡◌, drop}
use Rattle.console_run.proofs.FitLemmas.{lines_fit}
use Rattle.console_run.proofs.texts.lines_fit.Given as goal

abbrev pub invariant-loop-line : goal.invariant-loop-line
invariant-loop-line l = lines_fit l.room l.last (drop l.line-index l.lines) ≡ lines_fit 1000000 0 l.lines
