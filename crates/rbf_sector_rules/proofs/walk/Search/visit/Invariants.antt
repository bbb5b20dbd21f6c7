use Rattle.std.proofs.Common.{◌≡◌, ◌-◌, length, take}
use Rattle.rbf_model.specs.Disk.{disk_of}
use Rattle.rbf_model.specs.Geometry.{sector}
use Rattle.rbf_sector.specs.Ident.{geometry_of}
use Rattle.rbf_sector_rules.specs.Reading.{listed}
use Rattle.rbf_sector_rules.specs.Positions.{positions_in}
use Rattle.rbf_sector_rules.specs.Walk.{IsSearching}
use Rattle.rbf_sector_rules.proofs.PositionsRead.{IsVisitedTo}
use Rattle.rbf_sector_rules.proofs.walk.Search.visit.Given as goal

abbrev pub invariant-loop-first : goal.invariant-loop-first
invariant-loop-first l =
    IsSearching (disk_of (geometry_of l.image.ident) (sector l.image.bytes.now)) l.self
    × IsVisitedTo (geometry_of l.image.ident) (listed l.image l.dir.number) l.fn.self.found.items l.self.found.items (length (positions_in (take l.first-index l.first-items)))
    × (l.skipped ≡ 2 - length (positions_in (take l.first-index l.first-items)))
