-- So far the marks of the clusters before this one that are given up have been cleared.
use Rattle.rbf_alloc.specs.Own.{in_own}
use Rattle.rbf_alloc.proofs.Rests.{IsRestCleared}
use Rattle.rbf_alloc.proofs.cut_bits.clear_stretch.Given as goal

abbrev pub invariant-loop-c : goal.invariant-loop-c
invariant-loop-c l = IsRestCleared (in_own l.k l.cut.kept) l.place l.part l.fn.bytes l.bytes l.c
