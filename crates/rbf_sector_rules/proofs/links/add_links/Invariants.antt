use Rattle.rbf_sector_rules.specs.Linked.{AreAdded}
use Rattle.rbf_sector.specs.Ident.{geometry_of}
use Rattle.rbf_sector_rules.specs.Reading.{listed}
use Rattle.rbf_sector_rules.proofs.links.add_links.Given as goal

abbrev pub invariant-loop-i : goal.invariant-loop-i
invariant-loop-i l =
    AreAdded (geometry_of l.image.ident) (listed l.image l.dir.number) l.dir.number l.fn.links.items l.links.items l.i
