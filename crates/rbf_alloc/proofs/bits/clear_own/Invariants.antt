-- So far the marks of the segments before this one have been cleared.
use Rattle.rbf_alloc.specs.Own.{ClearsIn}
use Rattle.rbf_alloc.proofs.OwnParts.{in_front}
use Rattle.rbf_alloc.proofs.bits.clear_own.Given as goal

abbrev pub invariant-loop-i : goal.invariant-loop-i
invariant-loop-i l = ClearsIn l.place l.fn.bytes l.bytes (in_front l.k l.own l.i)
