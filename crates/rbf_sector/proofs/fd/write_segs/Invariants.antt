use Rattle.rbf_sector.proofs.Pairs.{HasPairs}
use Rattle.rbf_sector.proofs.fd.write_segs.Given as goal

abbrev pub invariant-loop-i : goal.invariant-loop-i
invariant-loop-i l = HasPairs l.fn.b l.b l.segs l.i
