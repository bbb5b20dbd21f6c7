use Rattle.std.proofs.Common.{Ok, Err, ap, ◌∙◌}
use Rattle.std.proofs.lemmas.Result.{err_from_is_err_and}
use Rattle.rbf_alloc.proofs.Dropping.{on_err}
use Rattle.rbf_entries.proofs.Attributed.{fault_counts}
use Rattle.rbf_entries.proofs.Deleting.{fewer_calls}
use Rattle.rbf_entries.specs.declared.deletion.Deletable.{Deletable}
use Rattle.rbf_entries.specs.Deleted.{as_before}
use Rattle.rbf_entries.proofs.Ends.{kept_answer, fault_answer, only_device, no_refusal, refused_still, found_still, file_found, answer_here, calls_here, stops_so, all_calls, file_marks}
use Rattle.rbf_entries.proofs.dirs_deletion.delete.Goals as goal

pub returns-in_err-found-clause-answer : goal.returns-in_err-found-clause-answer
returns-in_err-found-clause-answer g c v file on is =
    let p = err_from_is_err_and c.from_residual.result c.from_residual.ensures.1 in
    kept_answer _ c.in_err-found.field-0.0 _ (p.1 ∙ ap Err p.2) (c.in_err-found.ensures.answer v file on is)

pub returns-in_err-found-clause-fault : goal.returns-in_err-found-clause-fault
returns-in_err-found-clause-fault g c u on = on_err _ _ (as_before c.in_err-found.ensures.media_kept)

pub returns-in_err-found-clause-refused : goal.returns-in_err-found-clause-refused
returns-in_err-found-clause-refused g c = refused_still _ _ _ c.in_err-found.ensures.media_kept

pub returns-in_err-found-clause-counts : goal.returns-in_err-found-clause-counts
returns-in_err-found-clause-counts g c v file on is =
    let p = err_from_is_err_and c.from_residual.result c.from_residual.ensures.1 in
    fewer_calls Unit Deletable _ _ c.in_err-found.field-0.0 _ _ _ (p.1 ∙ ap Err p.2) (c.in_err-found.ensures.counts v file on is)

pub delete_at-requires-clause-found : goal.delete_at-requires-clause-found
delete_at-requires-clause-found g c = found_still _ c.args.dir c.args.name.now c.in_ok-found.found c.in_ok-found.ensures.ok _ c.in_ok-found.ensures.media_kept

pub returns-in_err-delete_at-clause-answer : goal.returns-in_err-delete_at-clause-answer
returns-in_err-delete_at-clause-answer g c v file on is =
    let p = err_from_is_err_and c.from_residual-in_err-delete_at.result c.from_residual-in_err-delete_at.ensures.1 in
    let answer =
    answer_here _ c.args.dir c.args.name.now c.in_ok-found.found c.in_ok-found.ensures.ok _
    c.in_ok-found.ensures.media_kept _ (Err c.in_err-delete_at.field-0.0) c.in_err-delete_at.ensures.answer v on in
    fault_answer _ c.in_err-delete_at.field-0.0 _ (p.1 ∙ ap Err p.2) (only_device v c.args.dir _ c.args.name.now _ _ c.in_err-delete_at.field-0.0 answer)

pub returns-in_err-delete_at-clause-fault : goal.returns-in_err-delete_at-clause-fault
returns-in_err-delete_at-clause-fault g c u on =
    let answer =
    answer_here _ c.args.dir c.args.name.now c.in_ok-found.found c.in_ok-found.ensures.ok _
    c.in_ok-found.ensures.media_kept _ (Err c.in_err-delete_at.field-0.0) c.in_err-delete_at.ensures.answer u on in
    on_err _ _ (stops_so _ _ c.args.dir c.in_ok-found.found.descriptor c.args.name.now c.args.by.user c.args.by.execute c.in_ok-found.ensures.answer u on c.in_err-delete_at.field-0.0 answer)

pub returns-in_err-delete_at-clause-refused : goal.returns-in_err-delete_at-clause-refused
returns-in_err-delete_at-clause-refused g c =
    let p = err_from_is_err_and c.from_residual-in_err-delete_at.result c.from_residual-in_err-delete_at.ensures.1 in
    let at = c.in_ok-found.ensures.ok in
    let on = at.free.place.on in
    let answer =
    answer_here _ c.args.dir c.args.name.now c.in_ok-found.found at _ c.in_ok-found.ensures.media_kept _
    (Err c.in_err-delete_at.field-0.0) c.in_err-delete_at.ensures.answer at.free.place.content on in
    on_err _ _ (no_refusal c.in_err-delete_at.field-0.0 _ _ (p.1 ∙ ap Err p.2) (only_device at.free.place.content c.args.dir _ c.args.name.now _ _ c.in_err-delete_at.field-0.0 answer))

pub returns-in_err-delete_at-clause-counts : goal.returns-in_err-delete_at-clause-counts
returns-in_err-delete_at-clause-counts g c v file on is =
    let p = err_from_is_err_and c.from_residual-in_err-delete_at.result c.from_residual-in_err-delete_at.ensures.1 in
    let at = c.in_ok-found.ensures.ok in
    let there = file_found _ c.args.dir c.args.name.now c.in_ok-found.found at v on in
    all_calls _ _ _ c.in_ok-found.found.descriptor (c.in_ok-found.ensures.answer v file on is) _ (file_marks v c.in_ok-found.found.descriptor at.free.file there) _ _ _ _
    (c.in_ok-found.ensures.counts v file on is)
    (fault_counts Unit Unit c.in_err-delete_at.field-0.0 _ _ _ _ (p.1 ∙ ap Err p.2)
    (calls_here _ c.args.dir c.args.name.now c.in_ok-found.found at _ c.in_ok-found.ensures.media_kept _ _ _ c.in_err-delete_at.ensures.counts v on))

pub returns-clause-answer : goal.returns-clause-answer
returns-clause-answer g c v file on is = (c.in_ok-found.found.descriptor, c.in_ok-found.ensures.answer v file on is)

pub returns-clause-ok : goal.returns-clause-ok
returns-clause-ok g c u on = record {
  number = c.in_ok-found.found.descriptor;
  is = answer_here _ c.args.dir c.args.name.now c.in_ok-found.found c.in_ok-found.ensures.ok _ c.in_ok-found.ensures.media_kept _ (Ok tt) c.in_ok-delete_at.ensures.answer u on;
}

pub returns-clause-counts : goal.returns-clause-counts
returns-clause-counts g c v file on is =
    let at = c.in_ok-found.ensures.ok in
    let there = file_found _ c.args.dir c.args.name.now c.in_ok-found.found at v on in
    all_calls _ _ _ c.in_ok-found.found.descriptor (c.in_ok-found.ensures.answer v file on is) _ (file_marks v c.in_ok-found.found.descriptor at.free.file there) _ _ _ _
    (c.in_ok-found.ensures.counts v file on is)
    (calls_here _ c.args.dir c.args.name.now c.in_ok-found.found at _ c.in_ok-found.ensures.media_kept _ _ _ c.in_ok-delete_at.ensures.counts v on)
