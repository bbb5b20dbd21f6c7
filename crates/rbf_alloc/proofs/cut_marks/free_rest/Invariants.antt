-- So far the marks of those of the segments before this one have been cleared.
use Rattle.std.proofs.Common.{◌&&◌, not}
use Rattle.rbf_alloc.specs.Own.{ClearsMarks, in_own, here}
use Rattle.rbf_alloc.proofs.OwnParts.{in_front}
use Rattle.rbf_alloc.proofs.cut_marks.free_rest.Given as goal

abbrev pub invariant-loop-i : goal.invariant-loop-i
invariant-loop-i l = ClearsMarks l.fn.map l.map (here (λ c. in_front l.k l.cut.old l.i c && not (in_own l.k l.cut.kept c)) l.place)
