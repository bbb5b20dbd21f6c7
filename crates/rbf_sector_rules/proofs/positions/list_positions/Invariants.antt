use Rattle.rbf_sector_rules.proofs.Positioned.{AreListed}
use Rattle.rbf_sector_rules.proofs.positions.list_positions.Given as goal

abbrev pub invariant-loop-i : goal.invariant-loop-i
invariant-loop-i l = AreListed l.dir.entries l.dir.segs l.ranges.items l.i l.left
