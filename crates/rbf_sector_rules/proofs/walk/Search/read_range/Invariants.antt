use Rattle.std.proofs.Common.{◌-◌, ◌*◌, ◌≤◌}
use Rattle.rbf_model.specs.Disk.{disk_of}
use Rattle.rbf_model.specs.Geometry.{sector}
use Rattle.rbf_sector.specs.Ident.{geometry_of}
use Rattle.rbf_sector_rules.specs.Walk.{IsSearching}
use Rattle.rbf_sector_rules.proofs.PositionsRead.{AreReadTo}
use Rattle.rbf_sector_rules.proofs.walk.Search.read_range.Given as goal

abbrev pub invariant-loop-e : goal.invariant-loop-e
invariant-loop-e l =
    IsSearching (disk_of (geometry_of l.image.ident) (sector l.image.bytes.now)) l.self
    × AreReadTo (geometry_of l.image.ident) (sector l.image.bytes.now) l.first l.end l.fn.self.found.items l.self.found.items l.e
    × (l.first ≤ l.e)
    × (l.e ≤ 8 * l.image.ident.total)

abbrev pub decreases-loop-e : goal.decreases-loop-e
decreases-loop-e l = l.end - l.e
