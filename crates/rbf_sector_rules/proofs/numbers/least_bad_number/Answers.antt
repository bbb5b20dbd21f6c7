use Rattle.std.proofs.Common.{◌*◌, ℕ, List, arith, get_or, subst, sym}
use Rattle.rbf_model.specs.Disk.{disk_of}
use Rattle.rbf_model.specs.Geometry.{sector}
use Rattle.rbf_sector.specs.Ident.{geometry_of}
use Rattle.rbf_sector_rules.specs.Least.{IsLeast}
use Rattle.rbf_sector_rules.specs.Nexts.{AreNexts}
use Rattle.rbf_sector_rules.specs.Rules.{BreaksNumbersAt, IsBadPosition}
use Rattle.rbf_sector_rules.specs.Files.{found_numbers}
use Rattle.rbf_sector_rules.proofs.FoundFiles.{file_on, at_number, as_many}
use Rattle.rbf_sector_rules.proofs.Leasts.{least_next}
use Rattle.rbf_sector_rules.proofs.Numbered.{least_numbers}
use Rattle.rbf_sector_rules.proofs.numbers.least_bad_number.Goals as goal

pub badly_numbered-requires-clause-nexts : goal.badly_numbered-requires-clause-nexts
badly_numbered-requires-clause-nexts c =
    let P : List ℕ → Type 0 = λ nexts. AreNexts (IsBadPosition (disk_of (geometry_of c.args.image.now.ident) (sector c.args.image.now.bytes.now))) (8 * c.args.image.now.ident.total) nexts in
    subst P (sym c.deref.ensures.value) c.in_ok-nexts.ensures

pub badly_numbered-requires-clause-file : goal.badly_numbered-requires-clause-file
badly_numbered-requires-clause-file c = file_on c.args.image.now c.args.files.now c.loop-file.file-index c.file-item.result c.requires.read (omega arith) c.file-item.is

pub loop-file-preserved : goal.loop-file-preserved
loop-file-preserved c =
    least_next (λ k. BreaksNumbersAt (disk_of (geometry_of c.args.image.now.ident)
    (sector c.args.image.now.bytes.now)) (get_or (found_numbers c.args.files.now) k 0)) c.loop-file.file-index
    c.loop-file.least c.in_ok-one.one c.least_of-least.result c.loop-file.invariant
    (at_number (λ n. IsLeast (BreaksNumbersAt (disk_of (geometry_of c.args.image.now.ident)
    (sector c.args.image.now.bytes.now)) n) c.in_ok-one.one) c.args.files.now c.loop-file.file-index
    c.file-item.result (omega arith) c.file-item.is c.in_ok-one.ensures) c.least_of-least.ensures

pub returns : goal.returns
returns c =
    least_numbers (geometry_of c.args.image.now.ident) (sector c.args.image.now.bytes.now)
    (found_numbers c.args.files.now) c.loop-file.file-index c.loop-file.least c.requires.found
    (omega (arith, as_many c.args.files.now)) c.loop-file.invariant
