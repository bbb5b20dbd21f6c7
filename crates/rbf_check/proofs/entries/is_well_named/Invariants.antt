use Rattle.rbf_check.specs.Keys.{AreNamed}
use Rattle.rbf_sector_rules.specs.Reading.{listed}
use Rattle.rbf_check.proofs.entries.is_well_named.Given as goal

abbrev pub invariant-loop-i : goal.invariant-loop-i
invariant-loop-i l = AreNamed (listed l.image l.dir.number) l.keys l.i
