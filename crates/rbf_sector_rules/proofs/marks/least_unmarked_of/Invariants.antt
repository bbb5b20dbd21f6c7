use Rattle.std.proofs.Common.{take}
use Rattle.rbf_model.specs.Disk.{disk_of}
use Rattle.rbf_model.specs.Geometry.{sector}
use Rattle.rbf_model.specs.Segments.{sectors_of}
use Rattle.rbf_sector.specs.Ident.{geometry_of}
use Rattle.rbf_sector_rules.specs.Least.{IsLeast}
use Rattle.rbf_sector_rules.specs.Used.{IsUnmarkedIn}
use Rattle.rbf_sector_rules.proofs.marks.least_unmarked_of.Given as goal

abbrev pub invariant-loop-first : goal.invariant-loop-first
invariant-loop-first l =
    IsLeast (IsUnmarkedIn (disk_of (geometry_of l.image.ident) (sector l.image.bytes.now)) (sectors_of (take l.first-index l.first-items))) l.least
