-- So far the marks of the clusters before this one have been cleared.
use Rattle.rbf_alloc.proofs.ClearedMarks.{IsFreedUpTo}
use Rattle.rbf_alloc.proofs.drop_marks.free_stretch.Given as goal

abbrev pub invariant-loop-c : goal.invariant-loop-c
invariant-loop-c l = IsFreedUpTo l.part l.fn.map l.map l.c
