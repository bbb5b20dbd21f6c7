use Rattle.rbf_segs.proofs.Runs.{IsCutTo}
use Rattle.rbf_segs.proofs.segment_list.shorten.Given as goal

abbrev pub invariant-loop-i : goal.invariant-loop-i
invariant-loop-i l = IsCutTo l.fn.places l.places l.sectors l.i l.left l.runs
