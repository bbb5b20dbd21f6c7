use Rattle.std.proofs.Common.{ℕ, List, arith, get_or, subst, sym}
use Rattle.rbf_model.specs.Disk.{disk_of}
use Rattle.rbf_model.specs.Geometry.{sector}
use Rattle.rbf_sector.specs.Ident.{geometry_of}
use Rattle.rbf_sector_rules.specs.Least.{IsLeast}
use Rattle.rbf_sector_rules.specs.Nexts.{AreNexts}
use Rattle.rbf_sector_rules.specs.Used.{IsUnmarked, IsUnmarkedIn, used_by}
use Rattle.rbf_sector_rules.specs.Files.{found_numbers}
use Rattle.rbf_sector_rules.proofs.FoundFiles.{file_on, at_number, as_many, file_reached}
use Rattle.rbf_sector_rules.proofs.Leasts.{least_next}
use Rattle.rbf_sector_rules.proofs.Unmarked.{least_unmarked_is}
use Rattle.rbf_sector_rules.proofs.marks.least_unmarked.Goals as goal

pub least_unmarked_of-requires-clause-nexts : goal.least_unmarked_of-requires-clause-nexts
least_unmarked_of-requires-clause-nexts c =
    let P : List ℕ → Type 0 = λ nexts. AreNexts (IsUnmarked (disk_of (geometry_of c.args.image.now.ident) (sector c.args.image.now.bytes.now))) c.args.image.now.ident.total nexts in
    subst P (sym c.deref.ensures.value) c.in_ok-nexts.ensures

pub least_unmarked_of-requires-clause-reached : goal.least_unmarked_of-requires-clause-reached
least_unmarked_of-requires-clause-reached c =
    file_reached c.args.image.now c.args.files.now c.loop-file.file-index c.file-item.result c.requires.files (omega arith) c.file-item.is

pub least_unmarked_of-requires-clause-file : goal.least_unmarked_of-requires-clause-file
least_unmarked_of-requires-clause-file c = file_on c.args.image.now c.args.files.now c.loop-file.file-index c.file-item.result c.requires.files.read (omega arith) c.file-item.is

pub loop-file-preserved : goal.loop-file-preserved
loop-file-preserved c =
    let g = geometry_of c.args.image.now.ident in
    let disk = sector c.args.image.now.bytes.now in
    least_next (λ k. IsUnmarkedIn (disk_of g disk) (used_by (disk_of g disk) (get_or (found_numbers c.args.files.now)
    k 0))) c.loop-file.file-index c.loop-file.least c.in_ok-one.one c.least_of-least.result c.loop-file.invariant
    (at_number (λ n. IsLeast (IsUnmarkedIn (disk_of g disk) (used_by (disk_of g disk) n)) c.in_ok-one.one)
    c.args.files.now c.loop-file.file-index c.file-item.result (omega arith) c.file-item.is c.in_ok-one.ensures)
    c.least_of-least.ensures

pub returns : goal.returns
returns c =
    least_unmarked_is (geometry_of c.args.image.now.ident) (sector c.args.image.now.bytes.now)
    (found_numbers c.args.files.now) c.requires.files.found c.loop-file.file-index
    (omega (arith, as_many c.args.files.now)) c.loop-file.least c.loop-file.invariant
