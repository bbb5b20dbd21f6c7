use Rattle.std.proofs.Common.{refl, inl, inr, arith}
use Rattle.std.proofs.lemmas.Result.{err_from_is_err_and}
use Rattle.rbf_access.proofs.Counting.{counts_then, counts_most}
use Rattle.rbf_access.proofs.Reading.{mounted_still}
use Rattle.rbf_entries.proofs.Deleting.{entry_on_drive, frees_on, freed_mounted, freed_sound}
use Rattle.rbf_entries.proofs.Ends.{stopped_answer}
use Rattle.rbf_entries.proofs.Gone.{has_gone, list_there, deleted_on, half_deleted_on, calls_on_file}
use Rattle.rbf_entries.proofs.found.delete_at.Goals as goal

pub free_entry-requires-clause-cached : goal.free_entry-requires-clause-cached
free_entry-requires-clause-cached g c = c.requires.mounted.cached

pub free_entry-requires-clause-sound : goal.free_entry-requires-clause-sound
free_entry-requires-clause-sound g c =
    freed_sound _ _ c.requires.found.directory c.requires.found.name c.args.found.now
    (frees_on _ _ _ c.requires.found.directory c.requires.found.name c.args.found.now c.requires.found.is refl refl)

pub free_entry-requires-clause-on : goal.free_entry-requires-clause-on
free_entry-requires-clause-on g c = entry_on_drive _ _ c.requires.found.directory c.requires.found.name c.args.found.now c.requires.found.is refl

pub returns-in_err-free_entry-clause-answer : goal.returns-in_err-free_entry-clause-answer
returns-in_err-free_entry-clause-answer g c dir name u at on =
    let p = err_from_is_err_and c.from_residual.result c.from_residual.ensures.1 in
    rw (p.1, p.2) (stopped_answer u dir c.args.found.now.descriptor name _ _ c.in_err-free_entry.field-0.0 c.in_err-free_entry.ensures.device (inl c.in_err-free_entry.ensures.media_kept))

pub returns-in_err-free_entry-clause-mounted : goal.returns-in_err-free_entry-clause-mounted
returns-in_err-free_entry-clause-mounted g c =
    mounted_still _ _ _ _ c.in_err-free_entry.ensures.volume_kept c.in_err-free_entry.ensures.media_kept
    c.in_err-free_entry.ensures.cached c.requires.mounted

pub returns-in_err-free_entry-clause-counts : goal.returns-in_err-free_entry-clause-counts
returns-in_err-free_entry-clause-counts g c v file on is =
    let p = err_from_is_err_and c.from_residual.result c.from_residual.ensures.1 in
    rw (p.1, p.2) (counts_most _ 2 _ _ _ (omega arith) c.in_err-free_entry.ensures.counts)

pub drop_own-requires-clause-mounted : goal.drop_own-requires-clause-mounted
drop_own-requires-clause-mounted g c =
    freed_mounted _ _ c.requires.found.directory c.requires.found.name c.args.found.now
    (frees_on _ _ _ c.requires.found.directory c.requires.found.name c.args.found.now c.requires.found.is refl c.in_ok-free_entry.ensures.written)
    _ _ c.in_ok-free_entry.ensures.volume_kept c.in_ok-free_entry.ensures.cached c.requires.mounted

pub drop_own-requires-clause-gone : goal.drop_own-requires-clause-gone
drop_own-requires-clause-gone g c =
    has_gone _ _ c.requires.found.directory c.requires.found.name c.args.found.now
    (frees_on _ _ _ c.requires.found.directory c.requires.found.name c.args.found.now c.requires.found.is refl c.in_ok-free_entry.ensures.written)

pub drop_own-requires-clause-list : goal.drop_own-requires-clause-list
drop_own-requires-clause-list g c =
    list_there _ _ c.requires.found.directory c.requires.found.name c.args.found.now
    (frees_on _ _ _ c.requires.found.directory c.requires.found.name c.args.found.now c.requires.found.is refl c.in_ok-free_entry.ensures.written)

pub returns-in_err-drop_own-clause-answer : goal.returns-in_err-drop_own-clause-answer
returns-in_err-drop_own-clause-answer g c dir name u at on =
    let p = err_from_is_err_and c.from_residual-in_err-drop_own.result c.from_residual-in_err-drop_own.ensures.1 in
    rw (p.1, p.2) (stopped_answer u dir c.args.found.now.descriptor name _ _ c.in_err-drop_own.field-0.0 c.in_err-drop_own.ensures.device
    (inr (half_deleted_on _ _ dir name c.args.found.now (frees_on _ _ _ dir name c.args.found.now at refl c.in_ok-free_entry.ensures.written) u on _ c.in_err-drop_own.ensures.fault)))

pub returns-in_err-drop_own-clause-counts : goal.returns-in_err-drop_own-clause-counts
returns-in_err-drop_own-clause-counts g c u file on is =
    let p = err_from_is_err_and c.from_residual-in_err-drop_own.result c.from_residual-in_err-drop_own.ensures.1 in
    rw (p.1, p.2) (counts_then _ 2 _ _ _ _ c.in_ok-free_entry.ensures.counts
    (calls_on_file _ _ c.requires.found.directory c.requires.found.name c.args.found.now
    (frees_on _ _ _ c.requires.found.directory c.requires.found.name c.args.found.now c.requires.found.is refl c.in_ok-free_entry.ensures.written)
    u on file is _ _ _ c.in_err-drop_own.ensures.counts))

pub returns-clause-answer : goal.returns-clause-answer
returns-clause-answer g c dir name u at on =
    deleted_on _ _ dir name c.args.found.now (frees_on _ _ _ dir name c.args.found.now at refl c.in_ok-free_entry.ensures.written) u on _ c.in_ok-drop_own.ensures.ok

pub returns-clause-counts : goal.returns-clause-counts
returns-clause-counts g c u file on is =
    counts_then _ 2 _ _ _ _ c.in_ok-free_entry.ensures.counts
    (calls_on_file _ _ c.requires.found.directory c.requires.found.name c.args.found.now
    (frees_on _ _ _ c.requires.found.directory c.requires.found.name c.args.found.now c.requires.found.is refl c.in_ok-free_entry.ensures.written)
    u on file is _ _ _ c.in_ok-drop_own.ensures.counts)
