use Rattle.std.proofs.Common.{refl, Err, ap, ◌∙◌}
use Rattle.std.proofs.lemmas.Result.{err_from_is_err_and}
use Rattle.rbf_access.proofs.Reading.{mounted_still}
use Rattle.rbf_walk.proofs.Stepping.{fault_walked}
use Rattle.rbf_entries.specs.Deletions.{descriptor_found}
use Rattle.rbf_entries.specs.declared.deletion.Deletable.{Deletable}
use Rattle.rbf_entries.proofs.Attributed.{fault_counts}
use Rattle.rbf_entries.proofs.Deleting.{same_answer, frees_on, freed_becomes, freed_mounted, freed_sound, entry_on_drive, all_calls, fewer_calls}
use Rattle.rbf_entries.proofs.deletion.delete_name.Goals as goal

pub returns-in_err-found-clause-answer : goal.returns-in_err-found-clause-answer
returns-in_err-found-clause-answer g c v file on is =
    let p = err_from_is_err_and c.from_residual.result c.from_residual.ensures.1 in
    same_answer _ c.in_err-found.field-0.0 _ (ap descriptor_found (p.1 ∙ ap Err p.2)) (c.in_err-found.ensures.answer v file on is)

pub returns-in_err-found-clause-counts : goal.returns-in_err-found-clause-counts
returns-in_err-found-clause-counts g c v file on is =
    let p = err_from_is_err_and c.from_residual.result c.from_residual.ensures.1 in
    fewer_calls Deletable Deletable _ _ c.in_err-found.field-0.0 _ _ _ (p.1 ∙ ap Err p.2) (c.in_err-found.ensures.counts v file on is)

pub free_entry-requires-clause-cached : goal.free_entry-requires-clause-cached
free_entry-requires-clause-cached g c = c.in_ok-found.ensures.mounted.cached

pub free_entry-requires-clause-on : goal.free_entry-requires-clause-on
free_entry-requires-clause-on g c = entry_on_drive _ _ c.args.dir c.args.name.now c.in_ok-found.found c.in_ok-found.ensures.ok c.in_ok-found.ensures.media_kept

pub returns-in_err-free_entry-clause-answer : goal.returns-in_err-free_entry-clause-answer
returns-in_err-free_entry-clause-answer g c v file on is =
    let p = err_from_is_err_and c.from_residual-in_err-free_entry.result c.from_residual-in_err-free_entry.ensures.1 in
    fault_walked Unit _ c.in_err-free_entry.field-0.0 _ (ap descriptor_found (p.1 ∙ ap Err p.2)) c.in_err-free_entry.ensures.device

pub returns-in_err-free_entry-clause-counts : goal.returns-in_err-free_entry-clause-counts
returns-in_err-free_entry-clause-counts g c v file on is =
    let p = err_from_is_err_and c.from_residual-in_err-free_entry.result c.from_residual-in_err-free_entry.ensures.1 in
    all_calls _ _ (c.in_ok-found.ensures.answer v file on is) _ _ _ _ _ (c.in_ok-found.ensures.counts v file on is)
    (fault_counts Unit Deletable c.in_err-free_entry.field-0.0 _ 2 _ _ (p.1 ∙ ap Err p.2)
    c.in_err-free_entry.ensures.counts)

pub returns-clause-answer : goal.returns-clause-answer
returns-clause-answer g c v file on is = c.in_ok-found.ensures.answer v file on is

pub returns-clause-ok : goal.returns-clause-ok
returns-clause-ok g c =
    freed_becomes _ _ c.args.dir c.args.name.now c.in_ok-found.found
    (frees_on _ _ _ c.args.dir c.args.name.now c.in_ok-found.found c.in_ok-found.ensures.ok
    c.in_ok-found.ensures.media_kept c.in_ok-free_entry.ensures.written)

pub returns-clause-written : goal.returns-clause-written
returns-clause-written g c = frees_on _ _ _ c.args.dir c.args.name.now c.in_ok-found.found c.in_ok-found.ensures.ok c.in_ok-found.ensures.media_kept c.in_ok-free_entry.ensures.written

pub returns-clause-mounted : goal.returns-clause-mounted
returns-clause-mounted g c =
    freed_mounted _ _ c.args.dir c.args.name.now c.in_ok-found.found
    (frees_on _ _ _ c.args.dir c.args.name.now c.in_ok-found.found c.in_ok-found.ensures.ok
    c.in_ok-found.ensures.media_kept c.in_ok-free_entry.ensures.written)
    _ _ (c.in_ok-free_entry.ensures.volume_kept ∙ c.in_ok-found.ensures.volume_kept) c.in_ok-free_entry.ensures.cached c.requires.mounted

pub returns-clause-counts : goal.returns-clause-counts
returns-clause-counts g c v file on is = all_calls _ _ (c.in_ok-found.ensures.answer v file on is) _ _ _ _ _ (c.in_ok-found.ensures.counts v file on is) c.in_ok-free_entry.ensures.counts

pub returns-in_err-free_entry-clause-mounted : goal.returns-in_err-free_entry-clause-mounted
returns-in_err-free_entry-clause-mounted g c =
    mounted_still _ _ _ _ c.in_err-free_entry.ensures.volume_kept c.in_err-free_entry.ensures.media_kept
    c.in_err-free_entry.ensures.cached c.in_ok-found.ensures.mounted

pub free_entry-requires-clause-sound : goal.free_entry-requires-clause-sound
free_entry-requires-clause-sound g c =
    freed_sound _ _ c.args.dir c.args.name.now c.in_ok-found.found
    (frees_on _ _ _ c.args.dir c.args.name.now c.in_ok-found.found c.in_ok-found.ensures.ok c.in_ok-found.ensures.media_kept refl)
