-- The first clusters of the list are free.
use Rattle.vol_tools.proofs.Freed.{IsUnderRepair}
use Rattle.vol_tools.proofs.clear.clear_marks.Given as goal

abbrev pub invariant-loop-c : goal.invariant-loop-c
invariant-loop-c l = IsUnderRepair l.fn.image.items l.lost l.c-index l.image.items
