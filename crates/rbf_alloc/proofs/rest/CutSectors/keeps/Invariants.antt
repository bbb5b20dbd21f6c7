-- No kept segment before this one has a sector in the cluster.
use Rattle.std.proofs.Common.{◌≡◌, false}
use Rattle.rbf_alloc.proofs.OwnParts.{in_front}
use Rattle.rbf_alloc.proofs.rest.CutSectors.keeps.Given as goal

abbrev pub invariant-loop-i : goal.invariant-loop-i
invariant-loop-i l = in_front l.k l.self.kept l.i l.c ≡ false
