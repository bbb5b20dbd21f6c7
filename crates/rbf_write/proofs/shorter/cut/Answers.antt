use Rattle.std.proofs.Common.{ap, refl, arith}
use Rattle.std.proofs.lemmas.Result.{err_from_is_err_and}
use Rattle.rbf_access.proofs.Counting.{counts_most}
use Rattle.rbf_access.proofs.Reading.{number_on, mounted_still}
use Rattle.rbf_write.proofs.Sized.{unread_ends}
use Rattle.rbf_write.proofs.Steps.{has_file}
use Rattle.rbf_write.proofs.CutAnswers.{cut_room, cut_same, cut_calls, releasing, cut_sound, may_release, cut_done, cut_mounted, cut_stopped, stopped_mounted}
use Rattle.rbf_write.proofs.shorter.cut.Goals as goal

pub kept_segments-segs-requires-clause-room : goal.kept_segments-segs-requires-clause-room
kept_segments-segs-requires-clause-room g c = cut_room _ c.args.loaded.now c.args.size c.requires.loaded c.requires.file c.requires.shorter

pub returns-in_err-store_fields-clause-answer : goal.returns-in_err-store_fields-clause-answer
returns-in_err-store_fields-clause-answer g c v file on is =
    let p = err_from_is_err_and c.from_residual.result c.from_residual.ensures.1 in
    rw (p.1, p.2) (unread_ends _ v file on _ is _ _ c.in_err-store_fields.ensures.device c.in_err-store_fields.ensures.media_kept)

pub returns-in_err-store_fields-clause-mounted : goal.returns-in_err-store_fields-clause-mounted
returns-in_err-store_fields-clause-mounted g c = mounted_still _ _ _ _ c.in_err-store_fields.ensures.volume_kept
    c.in_err-store_fields.ensures.media_kept c.in_err-store_fields.ensures.cached c.requires.mounted

pub returns-in_err-store_fields-clause-counts : goal.returns-in_err-store_fields-clause-counts
returns-in_err-store_fields-clause-counts g c v file on is =
    let p = err_from_is_err_and c.from_residual.result c.from_residual.ensures.1 in
    rw (p.1, p.2) (counts_most _ 1 _ _ _ (omega arith) c.in_err-store_fields.ensures.counts)

pub store_fields-requires-clause-may : goal.store_fields-requires-clause-may
store_fields-requires-clause-may g c = record {
  number = number_on _ c.args.loaded.now.number (has_file _ c.args.loaded.now.number c.requires.file);
  list = c.requires.loaded.list_is;
  same = cut_same _ c.args.loaded.now _ c.kept_segments-segs.result c.requires.loaded c.kept_segments-segs.ensures;
  sound = λ after stored.
      cut_sound _ after c.args.loaded.now c.args.size c.args.now c.requires.loaded c.requires.file c.args.volume.now
      c.args.volume.now c.requires.mounted refl c.requires.shorter c.kept_segments-segs.result
      c.kept_segments-segs.ensures stored
      c.requires.file.content c.requires.file.file c.requires.file.on c.requires.file.is;
}

pub store_fields-requires-clause-cached : goal.store_fields-requires-clause-cached
store_fields-requires-clause-cached g c = c.requires.mounted.cached

pub release_rest-requires-clause-cached : goal.release_rest-requires-clause-cached
release_rest-requires-clause-cached g c = c.in_ok-store_fields.ensures.cached

pub release_rest-requires-clause-may : goal.release_rest-requires-clause-may
release_rest-requires-clause-may g c =
    may_release _ _ c.args.loaded.now c.args.size c.args.now c.requires.loaded c.requires.file c.args.volume.now
    c.store_fields.new.volume c.requires.mounted c.in_ok-store_fields.ensures.volume_kept c.requires.shorter
    c.kept_segments-segs.result c.kept_segments-segs.ensures c.in_ok-store_fields.ensures.stored
    c.requires.file.content c.requires.file.file c.requires.file.on c.requires.file.is

pub returns-in_err-release_rest-clause-answer : goal.returns-in_err-release_rest-clause-answer
returns-in_err-release_rest-clause-answer g c v file on is =
    let p = err_from_is_err_and c.from_residual-in_err-release_rest.result c.from_residual-in_err-release_rest.ensures.1 in
    rw (p.1, p.2)
    (cut_stopped _ _ c.args.loaded.now c.args.size c.args.now c.requires.loaded c.requires.file c.args.volume.now
    c.store_fields.new.volume c.requires.mounted c.in_ok-store_fields.ensures.volume_kept c.requires.shorter
    c.kept_segments-segs.result c.kept_segments-segs.ensures c.in_ok-store_fields.ensures.stored
    v file on is _ _
    (c.in_err-release_rest.ensures.answer _ _ (releasing _ _ c.args.loaded.now c.args.size c.args.now c.requires.loaded
    c.requires.file c.args.volume.now c.store_fields.new.volume c.requires.mounted c.in_ok-store_fields.ensures.volume_kept
    c.requires.shorter c.kept_segments-segs.result c.kept_segments-segs.ensures c.in_ok-store_fields.ensures.stored
    v file on is)) _ c.in_err-release_rest.ensures.device)

pub returns-in_err-release_rest-clause-mounted : goal.returns-in_err-release_rest-clause-mounted
returns-in_err-release_rest-clause-mounted g c =
    stopped_mounted _ _ c.args.loaded.now c.args.size c.args.now c.requires.loaded c.requires.file c.args.volume.now
    c.store_fields.new.volume c.requires.mounted c.in_ok-store_fields.ensures.volume_kept c.requires.shorter
    c.kept_segments-segs.result c.kept_segments-segs.ensures c.in_ok-store_fields.ensures.stored
    c.requires.file.content c.requires.file.file c.requires.file.on c.requires.file.is _ _
    (c.in_err-release_rest.ensures.answer _ _ (releasing _ _ c.args.loaded.now c.args.size c.args.now c.requires.loaded
    c.requires.file c.args.volume.now c.store_fields.new.volume c.requires.mounted c.in_ok-store_fields.ensures.volume_kept
    c.requires.shorter c.kept_segments-segs.result c.kept_segments-segs.ensures c.in_ok-store_fields.ensures.stored
    c.requires.file.content c.requires.file.file c.requires.file.on c.requires.file.is)) c.release_rest.new.volume refl c.in_err-release_rest.ensures.cached

pub returns-in_err-release_rest-clause-counts : goal.returns-in_err-release_rest-clause-counts
returns-in_err-release_rest-clause-counts g c v file on is =
    let p = err_from_is_err_and c.from_residual-in_err-release_rest.result c.from_residual-in_err-release_rest.ensures.1 in
    rw (p.1, p.2)
    (cut_calls _ _ c.args.loaded.now c.args.size c.args.now c.requires.loaded c.requires.file c.args.volume.now
    c.store_fields.new.volume c.requires.mounted c.in_ok-store_fields.ensures.volume_kept c.requires.shorter
    c.kept_segments-segs.result c.kept_segments-segs.ensures c.in_ok-store_fields.ensures.stored
    v file on is _ _ _ _ c.in_ok-store_fields.ensures.counts c.in_err-release_rest.ensures.counts)

pub returns-clause-answer : goal.returns-clause-answer
returns-clause-answer g c v file on is =
    cut_done _ _ c.args.loaded.now c.args.size c.args.now c.requires.loaded c.requires.file c.args.volume.now
    c.store_fields.new.volume c.requires.mounted c.in_ok-store_fields.ensures.volume_kept c.requires.shorter
    c.kept_segments-segs.result c.kept_segments-segs.ensures c.in_ok-store_fields.ensures.stored
    v file on is _ _
    (c.in_ok-release_rest.ensures.answer _ _ (releasing _ _ c.args.loaded.now c.args.size c.args.now c.requires.loaded
    c.requires.file c.args.volume.now c.store_fields.new.volume c.requires.mounted c.in_ok-store_fields.ensures.volume_kept
    c.requires.shorter c.kept_segments-segs.result c.kept_segments-segs.ensures c.in_ok-store_fields.ensures.stored
    v file on is))

pub returns-clause-mounted : goal.returns-clause-mounted
returns-clause-mounted g c =
    cut_mounted _ _ c.args.loaded.now c.args.size c.args.now c.requires.loaded c.requires.file c.args.volume.now
    c.store_fields.new.volume c.requires.mounted c.in_ok-store_fields.ensures.volume_kept c.requires.shorter
    c.kept_segments-segs.result c.kept_segments-segs.ensures c.in_ok-store_fields.ensures.stored
    c.requires.file.content c.requires.file.file c.requires.file.on c.requires.file.is _ _ _
    (c.in_ok-release_rest.ensures.answer _ _ (releasing _ _ c.args.loaded.now c.args.size c.args.now c.requires.loaded
    c.requires.file c.args.volume.now c.store_fields.new.volume c.requires.mounted c.in_ok-store_fields.ensures.volume_kept
    c.requires.shorter c.kept_segments-segs.result c.kept_segments-segs.ensures c.in_ok-store_fields.ensures.stored
    c.requires.file.content c.requires.file.file c.requires.file.on c.requires.file.is)) c.release_rest.new.volume refl c.in_ok-release_rest.ensures.cached

pub returns-clause-counts : goal.returns-clause-counts
returns-clause-counts g c v file on is =
    cut_calls _ _ c.args.loaded.now c.args.size c.args.now c.requires.loaded c.requires.file c.args.volume.now
    c.store_fields.new.volume c.requires.mounted c.in_ok-store_fields.ensures.volume_kept c.requires.shorter
    c.kept_segments-segs.result c.kept_segments-segs.ensures c.in_ok-store_fields.ensures.stored
    v file on is _ _ _ _ c.in_ok-store_fields.ensures.counts c.in_ok-release_rest.ensures.counts
