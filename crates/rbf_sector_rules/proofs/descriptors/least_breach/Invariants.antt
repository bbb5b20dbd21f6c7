use Rattle.std.proofs.Common.{get_or}
use Rattle.rbf_model.specs.Disk.{disk_of}
use Rattle.rbf_model.specs.Geometry.{sector}
use Rattle.rbf_sector.specs.Ident.{geometry_of}
use Rattle.rbf_sector_rules.specs.Files.{found_numbers}
use Rattle.rbf_sector_rules.specs.Least.{IsLeast, Before}
use Rattle.rbf_sector_rules.specs.Rules.{BreaksOwnAt}
use Rattle.rbf_sector_rules.proofs.descriptors.least_breach.Given as goal

abbrev pub invariant-loop-file : goal.invariant-loop-file
invariant-loop-file l =
    IsLeast (Before (λ k. BreaksOwnAt l.rule (disk_of (geometry_of l.image.ident) (sector l.image.bytes.now)) (get_or (found_numbers l.files) k 0)) l.file-index) l.least
