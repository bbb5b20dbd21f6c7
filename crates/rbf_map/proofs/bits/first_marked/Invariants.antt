use Rattle.rbf_map.specs.Search.{ClearFrom}
use Rattle.rbf_map.proofs.bits.first_marked.Given as goal

abbrev pub invariant-loop-next : goal.invariant-loop-next
invariant-loop-next l = ClearFrom l.bytes l.first l.next
