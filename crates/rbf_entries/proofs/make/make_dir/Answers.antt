use Rattle.std.proofs.Common.{◌+◌, Ok, Err, false}
use Rattle.std.proofs.lemmas.Result.{err_from_is_err_and}
use Rattle.rbf_change.specs.Calls.{cluster_size}
use Rattle.rbf_change.specs.NewFiles.{file_clusters}
use Rattle.rbf_entries.proofs.Counted.{place_calls_most, then_calls}
use Rattle.rbf_entries.proofs.FoundPlace.{place_for}
use Rattle.rbf_entries.proofs.FolderStepped.{no_place, answer_there, calls_there}
use Rattle.rbf_entries.proofs.make.make_dir.Goals as goal

pub returns-in_err-found-clause-answer : goal.returns-in_err-found-clause-answer
returns-in_err-found-clause-answer g c v file on is =
    let p = err_from_is_err_and c.from_residual.result c.from_residual.ensures.1 in
    rw (p.1, p.2) (no_place _ _ c.in_err-found.ensures.media_kept c.args.dir c.args.file.now.name c.args.file.now.attr c.args.user c.args.file.now.date c.in_err-found.field-0.0
    c.in_err-found.ensures.answer v file on is)

pub returns-in_err-found-clause-counts : goal.returns-in_err-found-clause-counts
returns-in_err-found-clause-counts g c v file on is =
    let p = err_from_is_err_and c.from_residual.result c.from_residual.ensures.1 in
    rw (p.1, p.2) (place_calls_most v file (file_clusters (cluster_size v) 64 + 2) _ (Err c.in_err-found.field-0.0) _ _ (c.in_err-found.ensures.counts v file on is))

pub make_dir_at-requires-clause-place : goal.make_dir_at-requires-clause-place
make_dir_at-requires-clause-place g c =
    place_for _ _ c.in_ok-found.ensures.media_kept c.args.dir c.args.file.now.name c.args.user false c.in_ok-found.found
    c.in_ok-found.ensures.read c.requires.file c.in_ok-found.ensures.answer

pub make_dir_at-requires-clause-reading : goal.make_dir_at-requires-clause-reading
make_dir_at-requires-clause-reading g c = c.in_ok-found.ensures.read.execute_is

pub returns-in_err-n-clause-answer : goal.returns-in_err-n-clause-answer
returns-in_err-n-clause-answer g c v file on is =
    let p = err_from_is_err_and c.from_residual-in_err-n.result c.from_residual-in_err-n.ensures.1 in
    rw (p.1, p.2) (answer_there _ _ c.in_ok-found.ensures.media_kept c.args.dir c.args.file.now.name c.args.user
    c.in_ok-found.found c.in_ok-found.ensures.read c.args.file.now.attr c.args.file.now.date (Err c.in_err-n.field-0.0) _
    c.in_err-n.ensures.answer v file on is)

pub returns-in_err-n-clause-counts : goal.returns-in_err-n-clause-counts
returns-in_err-n-clause-counts g c v file on is =
    let p = err_from_is_err_and c.from_residual-in_err-n.result c.from_residual-in_err-n.ensures.1 in
    rw (p.1, p.2) (then_calls v file (file_clusters (cluster_size v) 64 + 2) _ (Err c.in_err-n.field-0.0) _ _ _
    (c.in_ok-found.ensures.counts v file on is) (calls_there _ _ c.in_ok-found.ensures.media_kept c.args.dir
    c.args.file.now.name c.args.user c.in_ok-found.found c.in_ok-found.ensures.read
    (λ u. file_clusters (cluster_size u) 64 + 2) (Err c.in_err-n.field-0.0) _ _ c.in_err-n.ensures.counts v file on is))

pub returns-clause-answer : goal.returns-clause-answer
returns-clause-answer g c v file on is =
    answer_there _ _ c.in_ok-found.ensures.media_kept c.args.dir c.args.file.now.name c.args.user c.in_ok-found.found
    c.in_ok-found.ensures.read c.args.file.now.attr c.args.file.now.date (Ok c.in_ok-n.n) _ c.in_ok-n.ensures.answer v file on is

pub returns-clause-counts : goal.returns-clause-counts
returns-clause-counts g c v file on is =
    then_calls v file _ _ (Ok c.in_ok-n.n) _ _ _ (c.in_ok-found.ensures.counts v file on is)
    (calls_there _ _ c.in_ok-found.ensures.media_kept c.args.dir c.args.file.now.name c.args.user c.in_ok-found.found
    c.in_ok-found.ensures.read _ (Ok c.in_ok-n.n) _ _ c.in_ok-n.ensures.counts v file on is)
