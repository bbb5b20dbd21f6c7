-- So far the marks of the segments before this one have been cleared.
use Rattle.rbf_alloc.specs.Own.{ClearsMarks, here}
use Rattle.rbf_alloc.proofs.OwnParts.{in_front}
use Rattle.rbf_alloc.proofs.drop_marks.free_own.Given as goal

abbrev pub invariant-loop-i : goal.invariant-loop-i
invariant-loop-i l = ClearsMarks l.fn.map l.map (here (in_front l.k l.own l.i) l.place)
