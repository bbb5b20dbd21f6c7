use Rattle.std.proofs.Common.{◌*◌}
use Rattle.rbf_model.specs.Disk.{disk_of}
use Rattle.rbf_model.specs.Geometry.{sector}
use Rattle.rbf_sector.specs.Ident.{geometry_of}
use Rattle.rbf_sector_rules.specs.Rules.{IsBadPosition}
use Rattle.rbf_sector_rules.proofs.NextTables.{IsFilled}
use Rattle.rbf_sector_rules.proofs.numbers.list_next_bad.Given as goal

abbrev pub invariant-loop-e : goal.invariant-loop-e
invariant-loop-e l =
    IsFilled (IsBadPosition (disk_of (geometry_of l.image.ident) (sector l.image.bytes.now))) (8 * l.image.ident.total) l.nexts.items l.e l.next
