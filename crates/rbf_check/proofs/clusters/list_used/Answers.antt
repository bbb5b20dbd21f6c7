use Rattle.std.proofs.Common.{◌≤◌, ℕ, List, get_or, length, sym, ap, subst, arith}
use Rattle.std.proofs.lemmas.List.{take_all}
use Rattle.rbf_model.specs.Disk.{disk_of}
use Rattle.rbf_model.specs.Geometry.{sector}
use Rattle.rbf_model.specs.File.{file_at}
use Rattle.rbf_model.specs.Space.{owned}
use Rattle.rbf_sector.specs.Ident.{geometry_of}
use Rattle.rbf_sector_rules.specs.declared.file.FoundFile.{FoundFile}
use Rattle.rbf_sector_rules.specs.Files.{AreFiles, found_numbers}
use Rattle.rbf_sector_rules.proofs.FoundFiles.{file_on, at_number, as_many, file_reached}
use Rattle.rbf_check.specs.Clusters.{NotesClusters, AreUsed}
use Rattle.rbf_check.proofs.Noted.{used_more}
use Rattle.rbf_check.proofs.clusters.list_used.Goals as goal
use Rattle.rbf_check.proofs.clusters.list_used.Goals.{In-loop-file}

-- the files that are gone over
files_of : (c : In-loop-file) → AreFiles c.args.survey.now.image c.deref-file-items.result.now
files_of c =
    subst (λ (files : List FoundFile). AreFiles c.args.survey.now.image files) (sym c.deref-file-items.ensures.value) c.requires.files

pub note_file-requires-clause-file : goal.note_file-requires-clause-file
note_file-requires-clause-file c =
    file_on c.args.survey.now.image c.deref-file-items.result.now c.loop-file.file-index c.file-item.result
    (files_of (goal.at.note_file-requires-clause-file c).In-loop-file).read (omega arith) c.file-item.is

pub note_file-requires-clause-reached : goal.note_file-requires-clause-reached
note_file-requires-clause-reached c =
    file_reached c.args.survey.now.image c.deref-file-items.result.now c.loop-file.file-index c.file-item.result
    (files_of (goal.at.note_file-requires-clause-reached c).In-loop-file) (omega arith) c.file-item.is

pub loop-file-preserved : goal.loop-file-preserved
loop-file-preserved c =
    let g = geometry_of c.args.survey.now.image.ident in
    let disk = sector c.args.survey.now.image.bytes.now in
    let i = c.loop-file.file-index in
    let files = c.args.survey.now.files.items in
    let Q : ℕ → Type 0 = λ n. NotesClusters g.cluster (owned g n (file_at disk n)) c.loop-file.used.items c.note_file.new.used.items in
    let P : List FoundFile → Type 0 = λ xs. Q (get_or (found_numbers xs) i 0) in
    let noted = at_number Q c.deref-file-items.result.now i c.file-item.result (omega arith) c.file-item.is c.note_file.ensures in
    used_more g disk (found_numbers files) i c.loop-file.used.items c.note_file.new.used.items (omega (arith, as_many files)) c.loop-file.invariant (subst P c.deref-file-items.ensures.value noted)

pub returns : goal.returns
returns c =
    let g = geometry_of c.args.survey.now.image.ident in
    let disk = sector c.args.survey.now.image.bytes.now in
    let files = c.args.survey.now.files.items in
    let over = c.deref-file-items in
    let many = ap (λ (xs : List FoundFile). length xs) over.ensures.value in
    let all : length (found_numbers files) ≤ c.loop-file.file-index = omega (arith, as_many files, many) in
    let P : List ℕ → Type 0 = λ numbers. AreUsed (disk_of g disk) numbers c.loop-file.used.items in
    subst P (take_all c.loop-file.file-index (found_numbers files) all) c.loop-file.invariant
