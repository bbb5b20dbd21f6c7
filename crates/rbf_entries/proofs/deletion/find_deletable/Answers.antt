use Rattle.std.proofs.Common.{◌/◌, Err, ap, sym, ◌∙◌, is_some}
use Rattle.std.proofs.lemmas.Option.{slice_get-get_or}
use Rattle.std.proofs.lemmas.Result.{err_from_is_err_and}
use Rattle.rbf_model.specs.Segments.{sectors_of}
use Rattle.rbf_sector.specs.declared.fd.Fd.{Fd}
use Rattle.rbf_walk.specs.declared.directory.Searched.{Searched}
use Rattle.rbf_walk.proofs.Stepping.{fault_walked, fd_on}
use Rattle.rbf_entries.specs.Deletions.{descriptor_found}
use Rattle.rbf_entries.specs.declared.deletion.Deletable.{Deletable}
use Rattle.rbf_entries.proofs.Attributed.{fault_counts}
use Rattle.rbf_entries.proofs.Deleting.{closed_end, absent_end, names_file, kept_end, deleted_end, may_be_freed, name_found, place_listed, one_look, two_looks, three_looks, file_still, read_before, read_here}
use Rattle.rbf_entries.proofs.deletion.find_deletable.Goals as goal

pub returns-in_err-fd-clause-answer : goal.returns-in_err-fd-clause-answer
returns-in_err-fd-clause-answer g c v file on is =
    let p = err_from_is_err_and c.from_residual.result c.from_residual.ensures.1 in
    fault_walked Fd _ c.in_err-fd.field-0.0 _ (ap descriptor_found (p.1 ∙ ap Err p.2)) c.in_err-fd.ensures.device

pub returns-then-not-may_change-clause-answer : goal.returns-then-not-may_change-clause-answer
returns-then-not-may_change-clause-answer g c v file on is =
    closed_end _ c.args.dir c.requires.file c.in_ok-fd.fd c.in_ok-fd.ensures.ok c.args.name.now c.args.by.user
    c.args.by.execute c.may_change.result c.may_change.ensures v file on is c.if-not-may_change.true

pub search-requires-clause-directory : goal.search-requires-clause-directory
search-requires-clause-directory g c = fd_on _ c.args.dir c.requires.file c.in_ok-fd.fd c.in_ok-fd.ensures.ok _ c.in_ok-fd.ensures.media_kept

pub returns-in_err-search-clause-answer : goal.returns-in_err-search-clause-answer
returns-in_err-search-clause-answer g c v file on is =
    let p = err_from_is_err_and c.from_residual-in_err-search.result c.from_residual-in_err-search.ensures.1 in
    fault_walked Searched _ c.in_err-search.field-0.0 _ (ap descriptor_found (p.1 ∙ ap Err p.2)) c.in_err-search.ensures.device

pub returns-in_err-search-clause-counts : goal.returns-in_err-search-clause-counts
returns-in_err-search-clause-counts g c v file on is =
    let p = err_from_is_err_and c.from_residual-in_err-search.result c.from_residual-in_err-search.ensures.1 in
    two_looks file c.args.name.now c.args.by.user c.args.by.execute _ _ _
    (sym (c.may_change.ensures file (c.in_ok-fd.ensures.ok v file on is)) ∙ c.if-not-may_change.false) _ _
    c.in_ok-fd.ensures.counts (fault_counts Searched Deletable c.in_err-search.field-0.0 _ _ _ _ (p.1 ∙ ap Err p.2)
    c.in_err-search.ensures.counts)
    (read_here _ _ c.args.dir c.in_ok-fd.fd v file _ c.in_ok-fd.ensures.media_kept on is (c.in_ok-fd.ensures.ok v file on is) c.in_err-search.ensures.read)

pub fd-requires-in-Found-clause-file : goal.fd-requires-in-Found-clause-file
fd-requires-in-Found-clause-file g c =
    file_still _ _ c.in-Found.descriptor (c.in_ok-search.ensures.media_kept ∙ c.in_ok-fd.ensures.media_kept)
    (names_file _ c.args.dir c.requires.file c.in_ok-fd.fd c.in_ok-fd.ensures.ok c.args.name.now c.args.by.user
    c.args.by.execute c.may_change.result c.may_change.ensures c.if-not-may_change.false _ c.in_ok-fd.ensures.media_kept
    c.in_ok-search.field-0 c.in_ok-search.ensures.ok c.in-Found.place c.in-Found.descriptor c.in-Found.is)

pub returns-in_err-file-in-Found-clause-answer : goal.returns-in_err-file-in-Found-clause-answer
returns-in_err-file-in-Found-clause-answer g c v file on is =
    let p = err_from_is_err_and c.from_residual-in_err-file-in-Found.result c.from_residual-in_err-file-in-Found.ensures.1 in
    fault_walked Fd _ c.in_err-file-in-Found.field-0.0 _ (ap descriptor_found (p.1 ∙ ap Err p.2)) c.in_err-file-in-Found.ensures.device

pub returns-in_err-file-in-Found-clause-counts : goal.returns-in_err-file-in-Found-clause-counts
returns-in_err-file-in-Found-clause-counts g c v file on is =
    let p = err_from_is_err_and c.from_residual-in_err-file-in-Found.result c.from_residual-in_err-file-in-Found.ensures.1 in
    three_looks file c.args.name.now c.args.by.user c.args.by.execute _ _ _ (sym (c.may_change.ensures file (c.in_ok-fd.ensures.ok v file on is)) ∙ c.if-not-may_change.false)
    (name_found _ c.args.dir c.requires.file c.in_ok-fd.fd c.in_ok-fd.ensures.ok c.args.name.now c.args.by.user
    c.args.by.execute c.may_change.result c.may_change.ensures c.if-not-may_change.false _ c.in_ok-fd.ensures.media_kept
    c.in_ok-search.field-0 c.in_ok-search.ensures.ok c.in-Found.place c.in-Found.descriptor c.in-Found.is v file on is)
    _ _ _ c.in_ok-fd.ensures.counts c.in_ok-search.ensures.counts
    (read_here _ _ c.args.dir c.in_ok-fd.fd v file _ c.in_ok-fd.ensures.media_kept on is
    (c.in_ok-fd.ensures.ok v file on is) c.in_ok-search.ensures.read)
    (fault_counts Fd Deletable c.in_err-file-in-Found.field-0.0 _ 1 _ _ (p.1 ∙ ap Err p.2)
    c.in_err-file-in-Found.ensures.counts)

pub returns-then-not-may_delete-clause-answer : goal.returns-then-not-may_delete-clause-answer
returns-then-not-may_delete-clause-answer g c v file on is =
    kept_end _ c.args.dir c.requires.file c.in_ok-fd.fd c.in_ok-fd.ensures.ok c.args.name.now c.args.by.user c.args.by.execute
    c.may_change.result c.may_change.ensures c.if-not-may_change.false _ c.in_ok-fd.ensures.media_kept
    c.in_ok-search.field-0 c.in_ok-search.ensures.ok c.in-Found.place c.in-Found.descriptor c.in-Found.is
    c.in_ok-file-in-Found.file (read_before _ _ c.in-Found.descriptor c.in_ok-file-in-Found.file
    (c.in_ok-search.ensures.media_kept ∙ c.in_ok-fd.ensures.media_kept) c.in_ok-file-in-Found.ensures.ok)
    c.may_delete.result c.may_delete.ensures c.if-not-may_delete.true v file on is

pub returns-then-not-may_delete-clause-counts : goal.returns-then-not-may_delete-clause-counts
returns-then-not-may_delete-clause-counts g c v file on is =
    three_looks file c.args.name.now c.args.by.user c.args.by.execute _ _ _ (sym (c.may_change.ensures file (c.in_ok-fd.ensures.ok v file on is)) ∙ c.if-not-may_change.false)
    (name_found _ c.args.dir c.requires.file c.in_ok-fd.fd c.in_ok-fd.ensures.ok c.args.name.now c.args.by.user
    c.args.by.execute c.may_change.result c.may_change.ensures c.if-not-may_change.false _ c.in_ok-fd.ensures.media_kept
    c.in_ok-search.field-0 c.in_ok-search.ensures.ok c.in-Found.place c.in-Found.descriptor c.in-Found.is v file on is)
    _ _ _ c.in_ok-fd.ensures.counts c.in_ok-search.ensures.counts
    (read_here _ _ c.args.dir c.in_ok-fd.fd v file _ c.in_ok-fd.ensures.media_kept on is
    (c.in_ok-fd.ensures.ok v file on is) c.in_ok-search.ensures.read) c.in_ok-file-in-Found.ensures.counts

pub returns-in-Absent-clause-answer : goal.returns-in-Absent-clause-answer
returns-in-Absent-clause-answer g c v file on is =
    absent_end _ c.args.dir c.requires.file c.in_ok-fd.fd c.in_ok-fd.ensures.ok c.args.name.now c.args.by.user
    c.args.by.execute c.may_change.result c.may_change.ensures c.if-not-may_change.false _ c.in_ok-fd.ensures.media_kept
    c.in_ok-search.field-0 c.in_ok-search.ensures.ok v file on is c.in-Absent.free c.in-Absent.is

pub returns-in-Absent-clause-counts : goal.returns-in-Absent-clause-counts
returns-in-Absent-clause-counts g c v file on is =
    two_looks file c.args.name.now c.args.by.user c.args.by.execute _ _ _
    (sym (c.may_change.ensures file (c.in_ok-fd.ensures.ok v file on is)) ∙ c.if-not-may_change.false) _ _
    c.in_ok-fd.ensures.counts c.in_ok-search.ensures.counts
    (read_here _ _ c.args.dir c.in_ok-fd.fd v file _ c.in_ok-fd.ensures.media_kept on is
    (c.in_ok-fd.ensures.ok v file on is) c.in_ok-search.ensures.read)

pub returns-else-not-may_delete-clause-answer : goal.returns-else-not-may_delete-clause-answer
returns-else-not-may_delete-clause-answer g c v file on is =
    deleted_end _ c.args.dir c.requires.file c.in_ok-fd.fd c.in_ok-fd.ensures.ok c.args.name.now c.args.by.user
    c.args.by.execute c.may_change.result c.may_change.ensures c.if-not-may_change.false _ c.in_ok-fd.ensures.media_kept
    c.in_ok-search.field-0 c.in_ok-search.ensures.ok c.in-Found.place c.in-Found.descriptor c.in-Found.is
    c.in_ok-file-in-Found.file (read_before _ _ c.in-Found.descriptor c.in_ok-file-in-Found.file
    (c.in_ok-search.ensures.media_kept ∙ c.in_ok-fd.ensures.media_kept) c.in_ok-file-in-Found.ensures.ok)
    c.may_delete.result c.may_delete.ensures c.if-not-may_delete.false v file on is

pub unwrap-lsn-requires : goal.unwrap-lsn-requires
unwrap-lsn-requires g c =
    ap is_some (c.lsn_of.ensures ∙ slice_get-get_or (sectors_of c.in_ok-fd.fd.segs) (c.in-Found.place / 8) 0
    (place_listed _ c.args.dir c.requires.file c.in_ok-fd.fd c.in_ok-fd.ensures.ok c.args.name.now c.args.by.user
    c.args.by.execute c.may_change.result c.may_change.ensures c.if-not-may_change.false _ c.in_ok-fd.ensures.media_kept
    c.in_ok-search.field-0 c.in_ok-search.ensures.ok c.in-Found.place c.in-Found.descriptor c.in-Found.is))

pub returns-else-not-may_delete-clause-ok : goal.returns-else-not-may_delete-clause-ok
returns-else-not-may_delete-clause-ok g c =
    may_be_freed _ c.args.dir c.requires.file c.in_ok-fd.fd c.in_ok-fd.ensures.ok c.args.name.now c.args.by.user
    c.args.by.execute c.may_change.result c.may_change.ensures c.if-not-may_change.false _ c.in_ok-fd.ensures.media_kept
    c.in_ok-search.field-0 c.in_ok-search.ensures.ok c.in-Found.place c.in-Found.descriptor c.in-Found.is
    c.in_ok-file-in-Found.file (read_before _ _ c.in-Found.descriptor c.in_ok-file-in-Found.file
    (c.in_ok-search.ensures.media_kept ∙ c.in_ok-fd.ensures.media_kept) c.in_ok-file-in-Found.ensures.ok)
    c.may_delete.result c.may_delete.ensures c.if-not-may_delete.false _ (sym c.lsn_of.ensures ∙ c.unwrap-lsn.ensures)

pub returns-else-not-may_delete-clause-counts : goal.returns-else-not-may_delete-clause-counts
returns-else-not-may_delete-clause-counts g c v file on is =
    three_looks file c.args.name.now c.args.by.user c.args.by.execute _ _ _ (sym (c.may_change.ensures file (c.in_ok-fd.ensures.ok v file on is)) ∙ c.if-not-may_change.false)
    (name_found _ c.args.dir c.requires.file c.in_ok-fd.fd c.in_ok-fd.ensures.ok c.args.name.now c.args.by.user
    c.args.by.execute c.may_change.result c.may_change.ensures c.if-not-may_change.false _ c.in_ok-fd.ensures.media_kept
    c.in_ok-search.field-0 c.in_ok-search.ensures.ok c.in-Found.place c.in-Found.descriptor c.in-Found.is v file on is)
    _ _ _ c.in_ok-fd.ensures.counts c.in_ok-search.ensures.counts
    (read_here _ _ c.args.dir c.in_ok-fd.fd v file _ c.in_ok-fd.ensures.media_kept on is
    (c.in_ok-fd.ensures.ok v file on is) c.in_ok-search.ensures.read) c.in_ok-file-in-Found.ensures.counts

pub returns-in_err-fd-clause-counts : goal.returns-in_err-fd-clause-counts
returns-in_err-fd-clause-counts g c v file on is =
    let p = err_from_is_err_and c.from_residual.result c.from_residual.ensures.1 in
    one_look file c.args.name.now c.args.by.user c.args.by.execute _ _ _ (fault_counts Fd Deletable c.in_err-fd.field-0.0 _ 1 _ _ (p.1 ∙ ap Err p.2) c.in_err-fd.ensures.counts)

pub returns-then-not-may_change-clause-counts : goal.returns-then-not-may_change-clause-counts
returns-then-not-may_change-clause-counts g c v file on is = one_look file c.args.name.now c.args.by.user c.args.by.execute _ _ _ c.in_ok-fd.ensures.counts
