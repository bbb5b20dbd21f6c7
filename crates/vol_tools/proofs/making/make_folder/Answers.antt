-- The way leads to a directory, in which the other is made.
use Rattle.std.proofs.Common.{ℕ, Ok, Err, refl}
use Rattle.std.proofs.lemmas.Result.{err_from_is_err_and}
use Rattle.rbf_walk.proofs.Stepping.{file_in}
use Rattle.vol_tools.specs.Making.{new_directory}
use Rattle.vol_tools.specs.Others.{KeepsOthers}
use Rattle.vol_tools.specs.Tail.{KeepsTail}
use Rattle.vol_tools.proofs.Others.{entered-others, leads-to}
use Rattle.vol_tools.proofs.Tails.{entering-tail, tail_from, tail_kept}
use Rattle.vol_tools.proofs.Counts.{directory_ends_then, done_then, same_faults}
use Rattle.vol_tools.proofs.Ways.{still, way_as}
use Rattle.vol_tools.proofs.Made.{way-refuses, entry-refuses, entered}
use Rattle.vol_tools.proofs.making.make_folder.Goals as goal

pub returns-in_err-dir-clause-answer : goal.returns-in_err-dir-clause-answer
returns-in_err-dir-clause-answer g c path v place on =
    let p = err_from_is_err_and c.from_residual.result c.from_residual.ensures.1 in
    rw (p.1, p.2) (way-refuses (new_directory c.args.now) path c.args.place.now place v _ _ c.in_err-dir.field-0.0
    c.in_err-dir.ensures.media_kept on (way_as v _ _ (Err c.in_err-dir.field-0.0) c.deref.ensures.value
    (c.in_err-dir.ensures.answer v on)))

pub returns-in_err-n-clause-answer : goal.returns-in_err-n-clause-answer
returns-in_err-n-clause-answer g c path v place on =
    let p = err_from_is_err_and c.from_residual-in_err-n.result c.from_residual-in_err-n.ensures.1 in
    let there = file_in _ c.in_ok-dir.dir c.in_ok-dir.ensures.file v on in
    rw (p.1, p.2)
    (entry-refuses (new_directory c.args.now) path c.args.place.now place v c.in_ok-dir.dir _ there
    (way_as v _ _ (Ok c.in_ok-dir.dir) c.deref.ensures.value (c.in_ok-dir.ensures.answer v on)) refl _ _ _
    c.in_ok-dir.ensures.media_kept on c.in_err-n.field-0.0
    (c.in_err-n.ensures.answer v _ (still _ _ v c.in_ok-dir.ensures.media_kept on) there))

pub returns-in_err-n-clause-fault : goal.returns-in_err-n-clause-fault
returns-in_err-n-clause-fault g c =
    let p = err_from_is_err_and c.from_residual-in_err-n.result c.from_residual-in_err-n.ensures.1 in
    let v = c.requires.content in
    let there = file_in _ c.in_ok-dir.dir c.in_ok-dir.ensures.file v c.requires.on in
    rw (p.1, p.2)
    (directory_ends_then ℕ ℕ c.in_err-n.field-0.0 _ _ _ _ c.in_ok-dir.ensures.fault (c.in_err-n.ensures.counts v _ (still _ _ v c.in_ok-dir.ensures.media_kept c.requires.on) there))

pub returns-clause-answer : goal.returns-clause-answer
returns-clause-answer g c path v place on =
    let there = file_in _ c.in_ok-dir.dir c.in_ok-dir.ensures.file v on in
    entered (new_directory c.args.now) path c.args.place.now place v c.in_ok-dir.dir _ there
    (way_as v _ _ (Ok c.in_ok-dir.dir) c.deref.ensures.value (c.in_ok-dir.ensures.answer v on)) refl _ _ _
    c.in_ok-dir.ensures.media_kept on c.in_ok-n.n
    (c.in_ok-n.ensures.answer v _ (still _ _ v c.in_ok-dir.ensures.media_kept on) there)

pub returns-clause-fault : goal.returns-clause-fault
returns-clause-fault g c =
    let v = c.requires.content in
    let there = file_in _ c.in_ok-dir.dir c.in_ok-dir.ensures.file v c.requires.on in
    done_then _ _ _ _ c.in_ok-dir.ensures.fault (c.in_ok-n.ensures.counts v _ (still _ _ v c.in_ok-dir.ensures.media_kept c.requires.on) there)

pub returns-in_err-dir-clause-tail : goal.returns-in_err-dir-clause-tail
returns-in_err-dir-clause-tail g c = tail_kept _ _ c.in_err-dir.ensures.media_kept

pub returns-in_err-n-clause-tail : goal.returns-in_err-n-clause-tail
returns-in_err-n-clause-tail g c =
    let v = c.requires.content in
    let there = file_in _ c.in_ok-dir.dir c.in_ok-dir.ensures.file v c.requires.on in
    let here = still _ _ v c.in_ok-dir.ensures.media_kept c.requires.on in
    tail_from KeepsTail _ _ _ c.in_ok-dir.ensures.media_kept (entering-tail v _ _ here _ _ (Err c.in_err-n.field-0.0) (c.in_err-n.ensures.answer v _ here there))

pub returns-clause-tail : goal.returns-clause-tail
returns-clause-tail g c =
    let v = c.requires.content in
    let there = file_in _ c.in_ok-dir.dir c.in_ok-dir.ensures.file v c.requires.on in
    let here = still _ _ v c.in_ok-dir.ensures.media_kept c.requires.on in
    tail_from KeepsTail _ _ _ c.in_ok-dir.ensures.media_kept (entering-tail v _ _ here _ _ (Ok c.in_ok-n.n) (c.in_ok-n.ensures.answer v _ here there))

pub returns-in_err-dir-clause-fault : goal.returns-in_err-dir-clause-fault
returns-in_err-dir-clause-fault g c =
    let p = err_from_is_err_and c.from_residual.result c.from_residual.ensures.1 in
    rw (p.1, p.2) (same_faults ℕ ℕ c.in_err-dir.field-0.0 _ _ c.in_err-dir.ensures.fault)

pub returns-clause-others : goal.returns-clause-others
returns-clause-others g c path place =
    let v = c.requires.content in
    let there = file_in _ c.in_ok-dir.dir c.in_ok-dir.ensures.file v c.requires.on in
    let here = still _ _ v c.in_ok-dir.ensures.media_kept c.requires.on in
    let way = way_as v _ _ (Ok c.in_ok-dir.dir) c.deref.ensures.value (c.in_ok-dir.ensures.answer v c.requires.on) in
    tail_from (KeepsOthers path) _ _ _ c.in_ok-dir.ensures.media_kept (entered-others path v _ _ here _ _ there
    c.in_ok-n.n (c.in_ok-n.ensures.answer v _ here there) (leads-to v path c.args.place.now c.in_ok-dir.dir
    place.is way))
