use Rattle.std.proofs.Common.{Err, ap, ◌∙◌}
use Rattle.std.proofs.lemmas.Result.{err_from_is_err_and}
use Rattle.rbf_sector.specs.declared.fd.Fd.{Fd}
use Rattle.rbf_walk.specs.declared.directory.Searched.{Searched}
use Rattle.rbf_walk.proofs.Stepping.{fault_walked, fault_calls, fd_on, closed_walked, first_calls, open_calls, found_walked, absent_walked, arrives_on}
use Rattle.rbf_walk.proofs.path.step.Goals as goal

pub returns-in_err-fd-clause-walked : goal.returns-in_err-fd-clause-walked
returns-in_err-fd-clause-walked g c v on =
    let p = err_from_is_err_and c.from_residual.result c.from_residual.ensures.1 in
    fault_walked Fd _ c.in_err-fd.field-0.0 _ (p.1 ∙ ap Err p.2) c.in_err-fd.ensures.device

pub returns-in_err-fd-clause-counts : goal.returns-in_err-fd-clause-counts
returns-in_err-fd-clause-counts g c v on =
    let p = err_from_is_err_and c.from_residual.result c.from_residual.ensures.1 in
    let has = c.requires.file in
    first_calls _ c.args.dir has c.args.by.user c.args.by.execute c.args.name.now v on _ _ _ (fault_calls Fd c.in_err-fd.field-0.0 _ 1 _ _ (p.1 ∙ ap Err p.2) c.in_err-fd.ensures.counts)

pub returns-in_err-descriptor-clause-walked : goal.returns-in_err-descriptor-clause-walked
returns-in_err-descriptor-clause-walked g c v on =
    let p = err_from_is_err_and c.from_residual-in_err-descriptor.result c.from_residual-in_err-descriptor.ensures.1 in
    fault_walked Searched _ c.in_err-descriptor.field-0.0 _ (p.1 ∙ ap Err p.2) c.in_err-descriptor.ensures.device

pub returns-in_err-descriptor-clause-counts : goal.returns-in_err-descriptor-clause-counts
returns-in_err-descriptor-clause-counts g c v on =
    let p = err_from_is_err_and c.from_residual-in_err-descriptor.result c.from_residual-in_err-descriptor.ensures.1 in
    open_calls _ c.args.dir c.requires.file c.in_ok-fd.fd c.in_ok-fd.ensures.ok c.args.by.user c.args.by.execute c.args.name.now c.is_open.result c.is_open.ensures v on
    _ c.in_ok-fd.ensures.media_kept _ _ _ _ c.if-not-is_open.false c.in_ok-fd.ensures.counts
    (fault_calls Searched c.in_err-descriptor.field-0.0 _ _ _ _ (p.1 ∙ ap Err p.2) c.in_err-descriptor.ensures.counts)
    c.in_err-descriptor.ensures.read

pub search-requires-clause-directory : goal.search-requires-clause-directory
search-requires-clause-directory g c = fd_on _ c.args.dir c.requires.file c.in_ok-fd.fd c.in_ok-fd.ensures.ok _ c.in_ok-fd.ensures.media_kept

pub returns-then-not-is_open-clause-walked : goal.returns-then-not-is_open-clause-walked
returns-then-not-is_open-clause-walked g c v on =
    closed_walked _ c.args.dir c.requires.file c.in_ok-fd.fd c.in_ok-fd.ensures.ok c.args.by.user c.args.by.execute c.args.name.now c.is_open.result c.is_open.ensures v on c.if-not-is_open.true

pub returns-then-not-is_open-clause-counts : goal.returns-then-not-is_open-clause-counts
returns-then-not-is_open-clause-counts g c v on =
    first_calls _ c.args.dir c.requires.file c.args.by.user c.args.by.execute c.args.name.now v on _ _ _ c.in_ok-fd.ensures.counts

pub returns-in-Found-clause-walked : goal.returns-in-Found-clause-walked
returns-in-Found-clause-walked g c v on =
    found_walked _ c.args.dir c.requires.file c.in_ok-fd.fd c.in_ok-fd.ensures.ok c.args.by.user c.args.by.execute c.args.name.now c.is_open.result c.is_open.ensures v on
    _ c.in_ok-fd.ensures.media_kept c.in_ok-descriptor.field-0 c.in_ok-descriptor.ensures.ok c.if-not-is_open.false c.in-Found.place c.in-Found.descriptor c.in-Found.is

pub returns-in-Found-clause-file : goal.returns-in-Found-clause-file
returns-in-Found-clause-file g c =
    let has = c.requires.file in
    arrives_on _ c.args.dir c.in-Found.descriptor c.args.by.user c.args.by.execute c.args.name.now has
    (found_walked _ c.args.dir has c.in_ok-fd.fd c.in_ok-fd.ensures.ok c.args.by.user c.args.by.execute c.args.name.now c.is_open.result c.is_open.ensures has.content has.on
    _ c.in_ok-fd.ensures.media_kept c.in_ok-descriptor.field-0 c.in_ok-descriptor.ensures.ok c.if-not-is_open.false c.in-Found.place c.in-Found.descriptor c.in-Found.is)

pub returns-in-Found-clause-counts : goal.returns-in-Found-clause-counts
returns-in-Found-clause-counts g c v on =
    open_calls _ c.args.dir c.requires.file c.in_ok-fd.fd c.in_ok-fd.ensures.ok c.args.by.user c.args.by.execute c.args.name.now c.is_open.result c.is_open.ensures v on
    _ c.in_ok-fd.ensures.media_kept _ _ _ _ c.if-not-is_open.false c.in_ok-fd.ensures.counts c.in_ok-descriptor.ensures.counts c.in_ok-descriptor.ensures.read

pub returns-in-Absent-clause-walked : goal.returns-in-Absent-clause-walked
returns-in-Absent-clause-walked g c v on =
    absent_walked _ c.args.dir c.requires.file c.in_ok-fd.fd c.in_ok-fd.ensures.ok c.args.by.user c.args.by.execute c.args.name.now c.is_open.result c.is_open.ensures v on
    _ c.in_ok-fd.ensures.media_kept c.in_ok-descriptor.field-0 c.in_ok-descriptor.ensures.ok c.if-not-is_open.false c.in-Absent.free c.in-Absent.is

pub returns-in-Absent-clause-counts : goal.returns-in-Absent-clause-counts
returns-in-Absent-clause-counts g c v on =
    open_calls _ c.args.dir c.requires.file c.in_ok-fd.fd c.in_ok-fd.ensures.ok c.args.by.user c.args.by.execute c.args.name.now c.is_open.result c.is_open.ensures v on
    _ c.in_ok-fd.ensures.media_kept _ _ _ _ c.if-not-is_open.false c.in_ok-fd.ensures.counts c.in_ok-descriptor.ensures.counts c.in_ok-descriptor.ensures.read
