use Rattle.std.proofs.Common.{arith}
use Rattle.std.proofs.lemmas.Result.{err_from_is_err_and}
use Rattle.rbf_access.proofs.Counting.{counts_most}
use Rattle.rbf_access.proofs.Reading.{mounted_still}
use Rattle.rbf_write.proofs.Sized.{unread_ends, size_stays, stays_calls}
use Rattle.rbf_write.proofs.SetSizes.{never_refused, refused_later, cut_answers, cut_counts, longer_answers, longer_counts}
use Rattle.rbf_write.proofs.size.set_size.Goals as goal

pub load_file-requires-clause-cached : goal.load_file-requires-clause-cached
load_file-requires-clause-cached g c = c.requires.mounted.cached

pub returns-in_err-loaded-clause-answer : goal.returns-in_err-loaded-clause-answer
returns-in_err-loaded-clause-answer g c v file on is =
    let p = err_from_is_err_and c.from_residual.result c.from_residual.ensures.1 in
    rw (p.1, p.2) (unread_ends _ v file on _ is _ _ c.in_err-loaded.ensures.device c.in_err-loaded.ensures.media_kept)

pub returns-in_err-loaded-clause-mounted : goal.returns-in_err-loaded-clause-mounted
returns-in_err-loaded-clause-mounted g c = mounted_still _ _ _ _ c.in_err-loaded.ensures.volume_kept c.in_err-loaded.ensures.media_kept c.in_err-loaded.ensures.cached c.requires.mounted

pub returns-in_err-loaded-clause-counts : goal.returns-in_err-loaded-clause-counts
returns-in_err-loaded-clause-counts g c v file on is marks are =
    let p = err_from_is_err_and c.from_residual.result c.from_residual.ensures.1 in
    rw (p.1, p.2) (counts_most _ 1 _ _ _ (stays_calls v file marks (record { number = c.args.fd; size = c.args.size; now = c.args.now })) c.in_err-loaded.ensures.counts)

pub returns-then-size-loaded-clause-answer : goal.returns-then-size-loaded-clause-answer
returns-then-size-loaded-clause-answer g c v file on is =
    let says = c.in_ok-loaded.ensures.ok.says v file on is in
    let size = says.size_is in
    size_stays _ v file on _ is (omega arith) _ c.in_ok-loaded.ensures.media_kept

pub returns-then-size-loaded-clause-mounted : goal.returns-then-size-loaded-clause-mounted
returns-then-size-loaded-clause-mounted g c = mounted_still _ _ _ _ c.in_ok-loaded.ensures.volume_kept c.in_ok-loaded.ensures.media_kept c.in_ok-loaded.ensures.cached c.requires.mounted

pub returns-then-size-loaded-clause-counts : goal.returns-then-size-loaded-clause-counts
returns-then-size-loaded-clause-counts g c v file on is marks are =
    counts_most _ 1 _ _ _ (stays_calls v file marks (record { number = c.args.fd; size = c.args.size; now = c.args.now })) c.in_ok-loaded.ensures.counts

pub cut-requires-clause-mounted : goal.cut-requires-clause-mounted
cut-requires-clause-mounted g c = mounted_still _ _ _ _ c.in_ok-loaded.ensures.volume_kept c.in_ok-loaded.ensures.media_kept c.in_ok-loaded.ensures.cached c.requires.mounted

pub returns-then-size-loaded-2-clause-answer : goal.returns-then-size-loaded-2-clause-answer
returns-then-size-loaded-2-clause-answer g c v file on is =
    cut_answers _ _ c.args.fd c.in_ok-loaded.loaded.number c.args.size c.args.now c.in_ok-loaded.ensures.media_kept c.in_ok-loaded.ensures.ok.number_is v file on is
    ((goal.BlockDriver-dyn g (c.args.d.now.0, c.cut.new.d)).media c.cut.new.d) c.cut.result c.cut.ensures.answer

pub returns-then-size-loaded-2-clause-counts : goal.returns-then-size-loaded-2-clause-counts
returns-then-size-loaded-2-clause-counts g c v file on is marks are =
    let size = (c.in_ok-loaded.ensures.ok.says v file on is).size_is in
    cut_counts _ _ c.args.fd c.in_ok-loaded.loaded.number c.args.size c.args.now c.in_ok-loaded.ensures.media_kept c.in_ok-loaded.ensures.ok.number_is v file on is
    marks _ _ _ _ (omega arith) c.in_ok-loaded.ensures.counts c.cut.ensures.counts

pub lay_over-requires-clause-mounted : goal.lay_over-requires-clause-mounted
lay_over-requires-clause-mounted g c = mounted_still _ _ _ _ c.in_ok-loaded.ensures.volume_kept c.in_ok-loaded.ensures.media_kept c.in_ok-loaded.ensures.cached c.requires.mounted

pub returns-clause-answer : goal.returns-clause-answer
returns-clause-answer g c v file on is =
    let size = (c.in_ok-loaded.ensures.ok.says v file on is).size_is in
    longer_answers _ _ c.args.fd c.in_ok-loaded.loaded.number c.args.size c.args.now c.in_ok-loaded.ensures.media_kept c.in_ok-loaded.ensures.ok.number_is v file on is
    ((goal.BlockDriver-dyn g (c.args.d.now.0, c.lay_over.new.d)).media c.lay_over.new.d) c.lay_over.result (omega arith) c.lay_over.ensures.answer

pub returns-clause-counts : goal.returns-clause-counts
returns-clause-counts g c v file on is marks are =
    let size = (c.in_ok-loaded.ensures.ok.says v file on is).size_is in
    longer_counts _ _ c.args.fd c.in_ok-loaded.loaded.number c.args.size c.args.now c.in_ok-loaded.ensures.media_kept c.in_ok-loaded.ensures.ok.number_is v file on is
    ((goal.BlockDriver-dyn g (c.args.d.now.0, c.lay_over.new.d)).media c.lay_over.new.d) c.lay_over.result _ _ _ _ (omega arith) c.in_ok-loaded.ensures.counts c.lay_over.ensures.counts marks are

pub returns-then-size-loaded-2-clause-refused_calls : goal.returns-then-size-loaded-2-clause-refused_calls
returns-then-size-loaded-2-clause-refused_calls g c = never_refused c.cut.result _ c.cut.ensures.device

pub returns-clause-refused_calls : goal.returns-clause-refused_calls
returns-clause-refused_calls g c = refused_later c.lay_over.result _ _ _ c.in_ok-loaded.ensures.counts.calls_made c.lay_over.ensures.calls_kept
