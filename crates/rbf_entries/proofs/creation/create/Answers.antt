use Rattle.std.proofs.Common.{Ok, Err}
use Rattle.std.proofs.lemmas.Result.{err_from_is_err_and}
use Rattle.rbf_entries.proofs.Counted.{place_calls_most, then_calls}
use Rattle.rbf_entries.proofs.FoundPlace.{place_for}
use Rattle.rbf_entries.proofs.Stepped.{no_place, answer_there, calls_there}
use Rattle.rbf_entries.proofs.creation.create.Goals as goal

pub returns-in_err-found-clause-answer : goal.returns-in_err-found-clause-answer
returns-in_err-found-clause-answer g c v file on is =
    let p = err_from_is_err_and c.from_residual.result c.from_residual.ensures.1 in
    rw (p.1, p.2) (no_place _ _ c.in_err-found.ensures.media_kept c.args.dir c.args.file.now.name c.args.file.now.attr c.args.by.user
    c.args.by.execute c.args.file.now.date c.in_err-found.field-0.0 c.in_err-found.ensures.answer v file on is)

pub returns-in_err-found-clause-counts : goal.returns-in_err-found-clause-counts
returns-in_err-found-clause-counts g c v file on is =
    let p = err_from_is_err_and c.from_residual.result c.from_residual.ensures.1 in
    rw (p.1, p.2) (place_calls_most v file 2 _ (Err c.in_err-found.field-0.0) _ _ (c.in_err-found.ensures.counts v file on is))

pub create_at-requires-clause-place : goal.create_at-requires-clause-place
create_at-requires-clause-place g c =
    place_for _ _ c.in_ok-found.ensures.media_kept c.args.dir c.args.file.now.name c.args.by.user c.args.by.execute
    c.in_ok-found.found c.in_ok-found.ensures.read c.requires.file c.in_ok-found.ensures.answer

pub returns-in_err-n-clause-answer : goal.returns-in_err-n-clause-answer
returns-in_err-n-clause-answer g c v file on is =
    let p = err_from_is_err_and c.from_residual-in_err-n.result c.from_residual-in_err-n.ensures.1 in
    rw (p.1, p.2) (answer_there _ _ c.in_ok-found.ensures.media_kept c.args.dir c.args.file.now.name c.args.by.user
    c.args.by.execute c.in_ok-found.found c.in_ok-found.ensures.read c.args.file.now.attr c.args.file.now.date (Err c.in_err-n.field-0.0) _
    c.in_err-n.ensures.answer v file on is)

pub returns-in_err-n-clause-counts : goal.returns-in_err-n-clause-counts
returns-in_err-n-clause-counts g c v file on is =
    let p = err_from_is_err_and c.from_residual-in_err-n.result c.from_residual-in_err-n.ensures.1 in
    rw (p.1, p.2) (then_calls v file 2 _ (Err c.in_err-n.field-0.0) _ _ _ (c.in_ok-found.ensures.counts v file on is)
    (calls_there _ _ c.in_ok-found.ensures.media_kept c.args.dir c.args.file.now.name c.args.by.user c.args.by.execute
    c.in_ok-found.found c.in_ok-found.ensures.read (Err c.in_err-n.field-0.0) _ _ c.in_err-n.ensures.counts v file on
    is))

pub returns-clause-answer : goal.returns-clause-answer
returns-clause-answer g c v file on is =
    answer_there _ _ c.in_ok-found.ensures.media_kept c.args.dir c.args.file.now.name c.args.by.user c.args.by.execute
    c.in_ok-found.found c.in_ok-found.ensures.read c.args.file.now.attr c.args.file.now.date (Ok c.in_ok-n.n) _ c.in_ok-n.ensures.answer v
    file on is

pub returns-clause-counts : goal.returns-clause-counts
returns-clause-counts g c v file on is =
    then_calls v file 2 _ (Ok c.in_ok-n.n) _ _ _ (c.in_ok-found.ensures.counts v file on is)
    (calls_there _ _ c.in_ok-found.ensures.media_kept c.args.dir c.args.file.now.name c.args.by.user c.args.by.execute
    c.in_ok-found.found c.in_ok-found.ensures.read (Ok c.in_ok-n.n) _ _ c.in_ok-n.ensures.counts v file on is)
