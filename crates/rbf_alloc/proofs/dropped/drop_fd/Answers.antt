use Rattle.std.proofs.Common.{◌∙◌, ap, sym, arith}
use Rattle.std.proofs.lemmas.Result.{err_from_is_err_and}
use Rattle.rbf_model.specs.Fields.{segments_field}
use Rattle.os9_outer.specs.Drive.{sector_at}
use Rattle.rbf_access.specs.Mounted.{mounted_part}
use Rattle.rbf_access.proofs.Counting.{counts_most}
use Rattle.rbf_access.proofs.Reading.{mounted_still}
use Rattle.rbf_alloc.proofs.Dropping.{agrees_on, drop_unread, on_err, still_gone, still_has_gone, dropped_before, ended_before, calls_before}
use Rattle.rbf_alloc.proofs.dropped.drop_fd.Goals as goal

pub load-requires-clause-cached : goal.load-requires-clause-cached
load-requires-clause-cached g c = c.requires.mounted.cached

pub returns-in_err-bytes-clause-fault : goal.returns-in_err-bytes-clause-fault
returns-in_err-bytes-clause-fault g c v file gone =
    on_err _ _ (drop_unread _ c.args.fd v file gone (mounted_part c.args.volume.now) (agrees_on c.args.volume.now _ v c.requires.mounted gone.on) _ c.in_err-bytes.ensures.media_kept)

pub returns-in_err-bytes-clause-mounted : goal.returns-in_err-bytes-clause-mounted
returns-in_err-bytes-clause-mounted g c = mounted_still _ _ _ _ c.in_err-bytes.ensures.volume_kept c.in_err-bytes.ensures.media_kept c.in_err-bytes.ensures.cached c.requires.mounted

pub drop_own-requires-clause-mounted : goal.drop_own-requires-clause-mounted
drop_own-requires-clause-mounted g c = mounted_still _ _ _ _ c.in_ok-bytes.ensures.volume_kept c.in_ok-bytes.ensures.media_kept c.in_ok-bytes.ensures.cached c.requires.mounted

pub drop_own-requires-clause-gone : goal.drop_own-requires-clause-gone
drop_own-requires-clause-gone g c = still_has_gone _ _ c.args.fd c.in_ok-bytes.ensures.media_kept c.requires.gone

pub drop_own-requires-clause-list : goal.drop_own-requires-clause-list
drop_own-requires-clause-list g c =
    c.read_fd.ensures.segs ∙ ap segments_field (c.in_ok-bytes.ensures.bytes ∙ ap (λ m. sector_at m c.args.fd) (sym c.in_ok-bytes.ensures.media_kept))

pub returns-in_err-drop_own-clause-fault : goal.returns-in_err-drop_own-clause-fault
returns-in_err-drop_own-clause-fault g c v file gone =
    let same = c.in_ok-bytes.ensures.media_kept in
    on_err _ _ (ended_before _ _ _ c.args.fd v file same (c.in_err-drop_own.ensures.fault v file (still_gone _ _ c.args.fd v file same gone)))

pub returns-clause-ok : goal.returns-clause-ok
returns-clause-ok g c v file gone =
    let same = c.in_ok-bytes.ensures.media_kept in
    dropped_before _ _ _ c.args.fd v file same (c.in_ok-drop_own.ensures.ok v file (still_gone _ _ c.args.fd v file same gone))

pub returns-in_err-bytes-clause-counts : goal.returns-in_err-bytes-clause-counts
returns-in_err-bytes-clause-counts g c v file gone =
    let p = err_from_is_err_and c.from_residual.result c.from_residual.ensures.1 in
    rw (p.1, p.2) (counts_most _ 1 _ _ _ (omega arith) c.in_err-bytes.ensures.counts)

pub returns-in_err-drop_own-clause-counts : goal.returns-in_err-drop_own-clause-counts
returns-in_err-drop_own-clause-counts g c v file gone =
    let p = err_from_is_err_and c.from_residual-in_err-drop_own.result c.from_residual-in_err-drop_own.ensures.1 in
    rw (p.1, p.2) (calls_before _ _ c.args.fd v file c.in_ok-bytes.ensures.media_kept _ _ _ _ c.in_ok-bytes.ensures.counts c.in_err-drop_own.ensures.counts gone)

pub returns-clause-counts : goal.returns-clause-counts
returns-clause-counts g c v file gone = calls_before _ _ c.args.fd v file c.in_ok-bytes.ensures.media_kept _ _ _ _ c.in_ok-bytes.ensures.counts c.in_ok-drop_own.ensures.counts gone
