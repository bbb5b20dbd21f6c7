-- The way leads to a directory, from which the file is deleted.
use Rattle.std.proofs.Common.{ℕ, Ok, Err}
use Rattle.std.proofs.lemmas.Result.{err_from_is_err_and}
use Rattle.rbf_walk.proofs.Stepping.{file_in}
use Rattle.vol_tools.specs.Others.{KeepsOthers}
use Rattle.vol_tools.specs.Tail.{KeepsTailUnused}
use Rattle.vol_tools.proofs.Entries.{not-itself}
use Rattle.vol_tools.proofs.Others.{deleted-others, leads-to}
use Rattle.vol_tools.proofs.Tails.{deleted-tail, stopped-tail, tail_from, unused_kept}
use Rattle.vol_tools.proofs.Counts.{directory_ends_then, done_then, same_faults}
use Rattle.vol_tools.proofs.Ways.{still, way_as}
use Rattle.vol_tools.proofs.Removed.{way-refuses, deletion-refuses, deleted}
use Rattle.vol_tools.proofs.removal.remove_at.Goals as goal

pub returns-in_err-dir-clause-answer : goal.returns-in_err-dir-clause-answer
returns-in_err-dir-clause-answer g c path now place v on =
    let p = err_from_is_err_and c.from_residual.result c.from_residual.ensures.1 in
    rw (p.1, p.2) (way-refuses path now v c.args.place.now place _ _ c.in_err-dir.field-0.0
    c.in_err-dir.ensures.media_kept on (way_as v _ _ (Err c.in_err-dir.field-0.0) c.deref.ensures.value
    (c.in_err-dir.ensures.answer v on)))

pub returns-in_err-delete-clause-answer : goal.returns-in_err-delete-clause-answer
returns-in_err-delete-clause-answer g c path now place v on =
    let p = err_from_is_err_and c.from_residual-in_err-delete.result c.from_residual-in_err-delete.ensures.1 in
    let there = file_in _ c.in_ok-dir.dir c.in_ok-dir.ensures.file v on in
    let here = still _ _ v c.in_ok-dir.ensures.media_kept on in
    rw (p.1, p.2)
    (deletion-refuses path now v c.args.place.now place c.in_ok-dir.dir _ there (way_as v _ _ (Ok c.in_ok-dir.dir)
    c.deref.ensures.value (c.in_ok-dir.ensures.answer v on)) _ _ _ c.in_ok-dir.ensures.media_kept on
    c.in_err-delete.field-0.0
    (c.in_err-delete.ensures.answer v _ here there) (c.in_err-delete.ensures.fault v here) c.in_err-delete.ensures.refused)

pub returns-in_err-delete-clause-fault : goal.returns-in_err-delete-clause-fault
returns-in_err-delete-clause-fault g c =
    let p = err_from_is_err_and c.from_residual-in_err-delete.result c.from_residual-in_err-delete.ensures.1 in
    let v = c.requires.content in
    let there = file_in _ c.in_ok-dir.dir c.in_ok-dir.ensures.file v c.requires.on in
    rw (p.1, p.2)
    (directory_ends_then (Unit {0}) (Unit {0}) c.in_err-delete.field-0.0 _ _ _ _ c.in_ok-dir.ensures.fault
    (c.in_err-delete.ensures.counts v _ (still _ _ v c.in_ok-dir.ensures.media_kept c.requires.on) there))

pub returns-clause-answer : goal.returns-clause-answer
returns-clause-answer g c path now place v on =
    let there = file_in _ c.in_ok-dir.dir c.in_ok-dir.ensures.file v on in
    let here = still _ _ v c.in_ok-dir.ensures.media_kept on in
    deleted path now v c.args.place.now place c.in_ok-dir.dir _ there (way_as v _ _ (Ok c.in_ok-dir.dir)
    c.deref.ensures.value (c.in_ok-dir.ensures.answer v on)) _ _ _ c.in_ok-dir.ensures.media_kept on
    (c.in_ok-delete.ensures.answer v _ here there) (c.in_ok-delete.ensures.ok v here)

pub returns-clause-fault : goal.returns-clause-fault
returns-clause-fault g c =
    let v = c.requires.content in
    let there = file_in _ c.in_ok-dir.dir c.in_ok-dir.ensures.file v c.requires.on in
    done_then _ _ _ _ c.in_ok-dir.ensures.fault (c.in_ok-delete.ensures.counts v _ (still _ _ v c.in_ok-dir.ensures.media_kept c.requires.on) there)

pub returns-in_err-dir-clause-tail : goal.returns-in_err-dir-clause-tail
returns-in_err-dir-clause-tail g c = unused_kept _ _ c.in_err-dir.ensures.media_kept

pub returns-in_err-delete-clause-tail : goal.returns-in_err-delete-clause-tail
returns-in_err-delete-clause-tail g c =
    let v = c.requires.content in
    let here = still _ _ v c.in_ok-dir.ensures.media_kept c.requires.on in
    tail_from KeepsTailUnused _ _ _ c.in_ok-dir.ensures.media_kept (stopped-tail v _ _ here _ _ _ _ (c.in_err-delete.ensures.fault v here))

pub returns-clause-tail : goal.returns-clause-tail
returns-clause-tail g c =
    let v = c.requires.content in
    let here = still _ _ v c.in_ok-dir.ensures.media_kept c.requires.on in
    tail_from KeepsTailUnused _ _ _ c.in_ok-dir.ensures.media_kept (deleted-tail v _ _ here _ _ (c.in_ok-delete.ensures.ok v here))

pub returns-in_err-dir-clause-fault : goal.returns-in_err-dir-clause-fault
returns-in_err-dir-clause-fault g c =
    let p = err_from_is_err_and c.from_residual.result c.from_residual.ensures.1 in
    rw (p.1, p.2) (same_faults ℕ (Unit {0}) c.in_err-dir.field-0.0 _ _ c.in_err-dir.ensures.fault)

pub returns-clause-others : goal.returns-clause-others
returns-clause-others g c path place =
    let v = c.requires.content in
    let there = file_in _ c.in_ok-dir.dir c.in_ok-dir.ensures.file v c.requires.on in
    let here = still _ _ v c.in_ok-dir.ensures.media_kept c.requires.on in
    let way = way_as v _ _ (Ok c.in_ok-dir.dir) c.deref.ensures.value (c.in_ok-dir.ensures.answer v c.requires.on) in
    let name = c.args.place.now.name in
    let by = c.in_ok-delete.ensures.ok v here in
    let (m, end) = c.in_ok-delete.ensures.answer v _ here there in
    tail_from (KeepsOthers path) _ _ _ c.in_ok-dir.ensures.media_kept
    (deleted-others path v _ _ here c.in_ok-dir.dir name (leads-to v path c.args.place.now c.in_ok-dir.dir place way) by
    (not-itself v by.is.after c.in_ok-dir.dir m _ name there end by.number by.is.deletes))
