-- The sectors from the place up to this one lie in the cluster.
use Rattle.rbf_model.specs.Segments.{sectors_of}
use Rattle.rbf_write.proofs.Beside.{IsBesideSoFar}
use Rattle.rbf_write.proofs.kept.end_beside.Given as goal

abbrev pub invariant-loop-next : goal.invariant-loop-next
invariant-loop-next l = IsBesideSoFar l.k l.cluster (sectors_of l.loaded.file.segs) l.place l.next
