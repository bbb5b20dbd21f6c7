use Rattle.std.proofs.Common.{get_or}
use Rattle.rbf_model.specs.Disk.{disk_of}
use Rattle.rbf_model.specs.Geometry.{sector}
use Rattle.rbf_sector.specs.Ident.{geometry_of}
use Rattle.rbf_sector_rules.specs.Files.{found_numbers}
use Rattle.rbf_sector_rules.specs.Least.{IsLeast, Before}
use Rattle.rbf_sector_rules.specs.Used.{IsUnmarkedIn, used_by}
use Rattle.rbf_sector_rules.proofs.marks.least_unmarked.Given as goal

abbrev pub invariant-loop-file : goal.invariant-loop-file
invariant-loop-file l =
    IsLeast (Before (λ k. IsUnmarkedIn (disk_of (geometry_of l.image.ident) (sector l.image.bytes.now))
    (used_by (disk_of (geometry_of l.image.ident) (sector l.image.bytes.now)) (get_or (found_numbers l.files) k
    0))) l.file-index) l.least
