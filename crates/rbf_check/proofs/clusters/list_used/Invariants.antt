use Rattle.std.proofs.Common.{take}
use Rattle.rbf_model.specs.Disk.{disk_of}
use Rattle.rbf_model.specs.Geometry.{sector}
use Rattle.rbf_sector_rules.specs.Files.{found_numbers}
use Rattle.rbf_sector.specs.Ident.{geometry_of}
use Rattle.rbf_check.specs.Clusters.{AreUsed}
use Rattle.rbf_check.proofs.clusters.list_used.Given as goal

abbrev pub invariant-loop-file : goal.invariant-loop-file
invariant-loop-file l =
    AreUsed (disk_of (geometry_of l.survey.image.ident) (sector l.survey.image.bytes.now)) (take l.file-index (found_numbers l.survey.files.items)) l.used.items
