use Rattle.std.proofs.Common.{◌≡◌, ◌++◌, take}
use Rattle.rbf_sector_rules.proofs.owners.push_segments.Given as goal

abbrev pub invariant-loop-i : goal.invariant-loop-i
invariant-loop-i l = l.segments.items ≡ l.fn.segments.items ++ take l.i l.segs
