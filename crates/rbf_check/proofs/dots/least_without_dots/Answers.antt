use Rattle.std.proofs.Common.{arith, get_or}
use Rattle.rbf_model.specs.Disk.{disk_of}
use Rattle.rbf_model.specs.Geometry.{sector}
use Rattle.rbf_sector.specs.Ident.{geometry_of}
use Rattle.rbf_sector_rules.specs.Least.{IsLeast}
use Rattle.rbf_check.specs.Dots.{IsWithoutDots}
use Rattle.rbf_sector_rules.specs.Files.{found_numbers}
use Rattle.rbf_sector_rules.proofs.FoundFiles.{file_on, at_number, as_many}
use Rattle.rbf_sector_rules.proofs.Leasts.{least_next}
use Rattle.rbf_check.proofs.Dotting.{file_after, least_without, dots_decided}
use Rattle.rbf_check.proofs.dots.least_without_dots.Goals as goal

pub without_dots-requires-clause-file : goal.without_dots-requires-clause-file
without_dots-requires-clause-file c = file_on c.args.image.now c.args.files.now c.loop-file.file-index c.file-item.result c.requires.files.read (omega arith) c.file-item.is

pub without_dots-requires-clause-after : goal.without_dots-requires-clause-after
without_dots-requires-clause-after c =
    file_after c.args.image.now c.args.files.now c.loop-file.file-index c.file-item.result c.requires.files (omega arith) c.file-item.is

pub loop-file-preserved : goal.loop-file-preserved
loop-file-preserved c =
    least_next (λ k. IsWithoutDots (disk_of (geometry_of c.args.image.now.ident) (sector c.args.image.now.bytes.now))
    (get_or (found_numbers c.args.files.now) k 0)) c.loop-file.file-index c.loop-file.least c.without_dots.result
    c.least_of-least.result c.loop-file.invariant
    (at_number (λ n. IsLeast (IsWithoutDots (disk_of (geometry_of c.args.image.now.ident)
    (sector c.args.image.now.bytes.now)) n) c.without_dots.result) c.args.files.now c.loop-file.file-index
    c.file-item.result (omega arith) c.file-item.is c.without_dots.ensures) c.least_of-least.ensures

pub returns-clause-decided : goal.returns-clause-decided
returns-clause-decided c =
    dots_decided (geometry_of c.args.image.now.ident) (sector c.args.image.now.bytes.now) c.in_ok-dotted.dotted.items c.in_ok-dotted.ensures

pub returns-clause-least : goal.returns-clause-least
returns-clause-least c =
    least_without (geometry_of c.args.image.now.ident) (sector c.args.image.now.bytes.now)
    (found_numbers c.args.files.now) c.loop-file.file-index c.loop-file.least c.requires.files.found
    (omega (arith, as_many c.args.files.now)) c.loop-file.invariant
