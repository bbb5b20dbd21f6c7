-- So far the clusters of the places before this one have been given back.
use Rattle.rbf_alloc.specs.Gained.{IsGivenBack}
use Rattle.rbf_alloc.proofs.returned.give_back.Given as goal

abbrev pub invariant-loop-i : goal.invariant-loop-i
invariant-loop-i l = IsGivenBack l.k l.segs l.range.first l.i l.written l.fn.map l.map
