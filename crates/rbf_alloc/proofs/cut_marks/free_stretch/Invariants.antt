-- So far the marks of the clusters before this one that are given up have been cleared.
use Rattle.rbf_alloc.specs.Own.{in_own}
use Rattle.rbf_alloc.proofs.Rests.{IsRestFreed}
use Rattle.rbf_alloc.proofs.cut_marks.free_stretch.Given as goal

abbrev pub invariant-loop-c : goal.invariant-loop-c
invariant-loop-c l = IsRestFreed (in_own l.k l.cut.kept) l.part l.fn.map l.map l.c
