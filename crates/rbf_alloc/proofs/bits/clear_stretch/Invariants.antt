-- So far the marks of the clusters before this one have been cleared.
use Rattle.rbf_alloc.proofs.ClearedMarks.{IsClearedUpTo}
use Rattle.rbf_alloc.proofs.bits.clear_stretch.Given as goal

abbrev pub invariant-loop-c : goal.invariant-loop-c
invariant-loop-c l = IsClearedUpTo l.part l.fn.bytes l.bytes l.c
