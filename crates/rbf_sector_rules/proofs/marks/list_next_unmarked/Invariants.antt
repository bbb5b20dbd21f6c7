use Rattle.rbf_model.specs.Disk.{disk_of}
use Rattle.rbf_model.specs.Geometry.{sector}
use Rattle.rbf_sector.specs.Ident.{geometry_of}
use Rattle.rbf_sector_rules.specs.Used.{IsUnmarked}
use Rattle.rbf_sector_rules.proofs.NextTables.{IsFilled}
use Rattle.rbf_sector_rules.proofs.marks.list_next_unmarked.Given as goal

abbrev pub invariant-loop-s : goal.invariant-loop-s
invariant-loop-s l =
    IsFilled (IsUnmarked (disk_of (geometry_of l.image.ident) (sector l.image.bytes.now))) l.image.ident.total l.nexts.items l.s l.next
