use Rattle.rbf_sector.proofs.RunAt.{IsLeft}
use Rattle.rbf_sector.proofs.run.run_at.Given as goal

abbrev pub invariant-loop-i : goal.invariant-loop-i
invariant-loop-i l = IsLeft l.b l.place l.i l.left
