-- The lines so far break no rule, and the slices are those that they give.
use Rattle.std.proofs.Common.{◌≡◌, length}
use Rattle.script_text.proofs.SliceLemmas.{SlicesSoFar}
use Rattle.script_text.proofs.slices.read_slices.Given as goal

abbrev pub invariant-loop-line : goal.invariant-loop-line
invariant-loop-line l = record {
  number : l.number ≡ length l.yielded;
  so_far : SlicesSoFar l.text (length l.yielded) l.slices.items l.total;
}
