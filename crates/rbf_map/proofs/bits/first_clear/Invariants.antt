use Rattle.rbf_model.specs.ClusterMap.{MarkedFrom}
use Rattle.rbf_map.proofs.bits.first_clear.Given as goal

abbrev pub invariant-loop-cluster : goal.invariant-loop-cluster
invariant-loop-cluster l = MarkedFrom l.bytes l.first l.cluster
