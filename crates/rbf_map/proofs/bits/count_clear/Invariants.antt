use Rattle.std.proofs.Common.{◌≡◌, ◌≤◌, length}
use Rattle.rbf_model.specs.ClusterMap.{clear_below}
use Rattle.rbf_map.proofs.bits.count_clear.Given as goal

abbrev pub invariant-loop-cluster : goal.invariant-loop-cluster
invariant-loop-cluster l = (l.clear ≡ length (clear_below l.bytes l.cluster)) × (l.clear ≤ l.cluster)
