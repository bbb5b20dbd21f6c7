-- So far this many clusters have been gained.
use Rattle.rbf_alloc.proofs.Gaining.{IsSoFar}
use Rattle.rbf_alloc.proofs.taken.gain.Given as goal

abbrev pub invariant-loop-taken : goal.invariant-loop-taken
invariant-loop-taken l = IsSoFar l.k l.count l.taken l.fn.map l.map l.segs l.longer
