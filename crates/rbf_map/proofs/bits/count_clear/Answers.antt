use Rattle.std.proofs.Common.{arith}
use Rattle.rbf_map.proofs.Marks.{clear_below-clear, clear_below-marked}
use Rattle.rbf_map.proofs.bits.count_clear.Goals as goal
use Rattle.rbf_map.proofs.bits.count_clear.Goals.{then-not-is_marked, else-not-is_marked}

pub loop-cluster-preserved : goal.loop-cluster-preserved
loop-cluster-preserved c = elim c.if-not-is_marked.branch [
  | then-not-is_marked w ↦
      let more = clear_below-clear c.args.bytes.now c.loop-cluster.cluster w.if-not-is_marked.ensures in
      (omega arith, omega arith)
  | else-not-is_marked w ↦
      let more = clear_below-marked c.args.bytes.now c.loop-cluster.cluster w.if-not-is_marked.ensures in
      (omega arith, omega arith)
]
