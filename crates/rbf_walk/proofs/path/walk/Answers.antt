use Rattle.std.proofs.Common.{Err, ap, sym, subst, ◌∙◌}
use Rattle.std.proofs.lemmas.Result.{err_from_is_err_and}
use Rattle.rbf_access.proofs.Reading.{mounted_still}
use Rattle.rbf_access.specs.Mounted.{HasFile}
use Rattle.rbf_walk.proofs.Stepping.{not_begun, stopped_walked, stopped_calls, one_more, ended_walked, ended_calls}
use Rattle.rbf_walk.proofs.path.walk.Goals as goal

pub loop-name-init : goal.loop-name-init
loop-name-init g c = not_begun _ c.args.by.user c.args.by.execute c.args.from c.args.names.now _ _ _ c.requires.file c.requires.mounted.cached

pub step-requires-clause-mounted : goal.step-requires-clause-mounted
step-requires-clause-mounted g c = mounted_still _ _ _ _ c.loop-name.invariant.same_volume c.loop-name.invariant.same_media c.loop-name.invariant.cached c.requires.mounted

pub step-requires-clause-file : goal.step-requires-clause-file
step-requires-clause-file g c = subst (λ m. HasFile m c.loop-name.at) (sym c.loop-name.invariant.same_media) c.loop-name.invariant.file

pub returns-in_err-at-clause-walked : goal.returns-in_err-at-clause-walked
returns-in_err-at-clause-walked g c =
    let p = err_from_is_err_and c.from_residual.result c.from_residual.ensures.1 in
    stopped_walked _ c.args.by.user c.args.by.execute c.args.from c.args.names.now c.loop-name.at c.loop-name.name-index _ _ _
    _ _ _ c.loop-name.invariant c.name-item.result c.loop-name-test.true c.name-item.is
    c.in_err-at.field-0.0 _ (p.1 ∙ ap Err p.2) c.in_err-at.ensures.walked

pub returns-in_err-at-clause-media_kept : goal.returns-in_err-at-clause-media_kept
returns-in_err-at-clause-media_kept g c = c.in_err-at.ensures.media_kept ∙ c.loop-name.invariant.same_media

pub returns-in_err-at-clause-volume_kept : goal.returns-in_err-at-clause-volume_kept
returns-in_err-at-clause-volume_kept g c = c.in_err-at.ensures.volume_kept ∙ c.loop-name.invariant.same_volume

pub returns-in_err-at-clause-counts : goal.returns-in_err-at-clause-counts
returns-in_err-at-clause-counts g c =
    let p = err_from_is_err_and c.from_residual.result c.from_residual.ensures.1 in
    stopped_calls _ c.args.by.user c.args.by.execute c.args.from c.args.names.now c.loop-name.at c.loop-name.name-index _ _ _
    _ _ _ c.loop-name.invariant c.name-item.result c.loop-name-test.true c.name-item.is
    c.in_err-at.field-0.0 _ _ (p.1 ∙ ap Err p.2) c.in_err-at.ensures.counts

pub loop-name-preserved : goal.loop-name-preserved
loop-name-preserved g c =
    let led = c.in_ok-at.ensures in
    one_more _ c.args.by.user c.args.by.execute c.args.from c.args.names.now c.loop-name.at c.loop-name.name-index _ _ _ _ _ _ c.loop-name.invariant c.name-item.result
    c.loop-name-test.true c.name-item.is
    c.in_ok-at.at _ _ _ _ led.file led.media_kept led.volume_kept led.mounted.cached led.walked led.counts

pub returns-clause-walked : goal.returns-clause-walked
returns-clause-walked g c = ended_walked _ c.args.by.user c.args.by.execute c.args.from c.args.names.now c.loop-name.at c.loop-name.name-index _ _ _ _ _ _ c.loop-name.invariant c.loop-name-test.false

pub returns-clause-file : goal.returns-clause-file
returns-clause-file g c = c.loop-name.invariant.file

pub returns-clause-mounted : goal.returns-clause-mounted
returns-clause-mounted g c = mounted_still _ _ _ _ c.loop-name.invariant.same_volume c.loop-name.invariant.same_media c.loop-name.invariant.cached c.requires.mounted

pub returns-clause-media_kept : goal.returns-clause-media_kept
returns-clause-media_kept g c = c.loop-name.invariant.same_media

pub returns-clause-volume_kept : goal.returns-clause-volume_kept
returns-clause-volume_kept g c = c.loop-name.invariant.same_volume

pub returns-clause-counts : goal.returns-clause-counts
returns-clause-counts g c = ended_calls _ c.args.by.user c.args.by.execute c.args.from c.args.names.now c.loop-name.at c.loop-name.name-index _ _ _ _ _ _ c.loop-name.invariant c.loop-name-test.false
