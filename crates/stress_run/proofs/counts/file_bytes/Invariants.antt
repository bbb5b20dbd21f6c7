-- The sizes of the nodes before the place are counted.
use Rattle.std.proofs.Common.{◌≡◌, take}
use Rattle.std.specs.Prelude.{sum_by}
use Rattle.stress_run.specs.Nodes.{node_size}
use Rattle.stress_run.proofs.counts.file_bytes.Given as goal

abbrev pub invariant-loop-place : goal.invariant-loop-place
invariant-loop-place l = l.bytes ≡ sum_by node_size (take l.place l.tree.nodes)
