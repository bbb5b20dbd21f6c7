use Rattle.std.proofs.Common.{arith, get_or}
use Rattle.rbf_model.specs.Disk.{disk_of}
use Rattle.rbf_model.specs.Geometry.{sector}
use Rattle.rbf_sector.specs.Ident.{geometry_of}
use Rattle.rbf_sector_rules.specs.Least.{IsLeast}
use Rattle.rbf_sector_rules.specs.Rules.{BreaksOwnAt}
use Rattle.rbf_sector_rules.specs.Files.{found_numbers}
use Rattle.rbf_sector_rules.proofs.FoundFiles.{file_on, at_number, as_many}
use Rattle.rbf_sector_rules.proofs.Leasts.{least_next}
use Rattle.rbf_sector_rules.proofs.Own.{least_own}
use Rattle.rbf_sector_rules.proofs.descriptors.least_breach.Goals as goal

pub breach_of-requires : goal.breach_of-requires
breach_of-requires c = file_on c.args.image.now c.args.files.now c.loop-file.file-index c.file-item.result c.requires.read (omega arith) c.file-item.is

pub loop-file-preserved : goal.loop-file-preserved
loop-file-preserved c =
    least_next (λ k. BreaksOwnAt c.args.rule (disk_of (geometry_of c.args.image.now.ident)
    (sector c.args.image.now.bytes.now)) (get_or (found_numbers c.args.files.now) k 0)) c.loop-file.file-index
    c.loop-file.least c.breach_of.result c.least_of-least.result c.loop-file.invariant
    (at_number (λ n. IsLeast (BreaksOwnAt c.args.rule (disk_of (geometry_of c.args.image.now.ident)
    (sector c.args.image.now.bytes.now)) n) c.breach_of.result) c.args.files.now c.loop-file.file-index
    c.file-item.result (omega arith) c.file-item.is c.breach_of.ensures) c.least_of-least.ensures

pub returns : goal.returns
returns c =
    least_own (geometry_of c.args.image.now.ident) (sector c.args.image.now.bytes.now) c.args.rule
    (found_numbers c.args.files.now) c.loop-file.file-index c.loop-file.least c.requires.found
    (omega (arith, as_many c.args.files.now)) c.loop-file.invariant
