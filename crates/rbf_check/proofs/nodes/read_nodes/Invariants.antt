use Rattle.rbf_check.specs.VolumeNodes.{AreNodesBelow}
use Rattle.rbf_check.proofs.nodes.read_nodes.Given as goal

abbrev pub invariant-loop-n : goal.invariant-loop-n
invariant-loop-n l = AreNodesBelow l.survey l.nodes.items l.n
