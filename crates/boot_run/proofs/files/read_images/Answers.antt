use Rattle.std.proofs.Common.{◌≡◌, ◌<◌, ◌+◌, ◌∙◌, [], suc, length, ap, subst, arith}
use Rattle.std.specs.Prelude.{IfSome}
use Rattle.std.proofs.lemmas.List.{length-append, take_all}
use Rattle.std.proofs.lemmas.Result.{err_from_is_err_and}
use Rattle.os9_outer.specs.Host.{file_contents}
use Rattle.boot_run.specs.World.{World}
use Rattle.boot_run.specs.End.{run_file_name}
use Rattle.boot_run.proofs.FileLemmas.{images-more}
use Rattle.boot_run.proofs.ReadLemmas.{read-one, stop-at, stop-behind-read, stops-after}
use Rattle.boot_run.proofs.files.read_images.Goals as goal

pub returns-in_err-image-clause-ended : goal.returns-in_err-image-clause-ended
returns-in_err-image-clause-ended g c =
    let gave = err_from_is_err_and c.from_residual.result c.from_residual.ensures.1 in
    rw (gave.1, gave.2) (λ devices. stops-after (run_file_name c.args.run.now) _ _ _ _ (c.loop-place.invariant.kept
    devices) (c.in_err-image.ensures.ended devices (run_file_name c.args.run.now) c.word.ensures))

pub returns-in-Err-clause-ended : goal.returns-in-Err-clause-ended
returns-in-Err-clause-ended g c devices =
    c.in_ok-image.ensures.kept devices ∙ c.loop-place.invariant.kept devices

pub loop-place-preserved : goal.loop-place-preserved
loop-place-preserved g c =
    let so_far = c.loop-place.invariant in
    let pushed = c.in-Ok.ensures.pushed in
    let below : c.loop-place.place < length c.args.run.now.files = omega (arith, c.len-place-end.ensures) in
    let next : c.loop-place.place + 1 ≡ suc c.loop-place.place = omega arith in
    let same = ap (λ (w : World). w.files) (so_far.kept (record { drives = []; terms = [] })) in
    record {
      within = omega arith;
      count = rw (pushed, length-append, so_far.count) (omega arith);
      contents = rw (pushed, next) (images-more _ c.args.run.now.files c.loop-place.images c.loop-place.place
          c.word.result.now c.in_ok-image.image.items c.word.ensures so_far.contents
          (subst (λ told. IfSome told (λ files. c.in_ok-image.image.items ≡ file_contents files c.word.result.now))
          same c.in_ok-image.ensures.contents));
      kept = λ devices. c.in_ok-image.ensures.kept devices ∙ so_far.kept devices;
      notes = rw next (read-one c.loop-place.place c.args.run.now.files c.word.result.now c.word.ensures _ _ _ so_far.notes c.in_ok-image.ensures.noted);
    }

-- ---- the names

pub returns-in_err-image-clause-stopped : goal.returns-in_err-image-clause-stopped
returns-in_err-image-clause-stopped g c =
    let run = c.args.run.now in
    let gave = err_from_is_err_and c.from_residual.result c.from_residual.ensures.1 in
    rw (gave.1, gave.2) (stop-at c.loop-place.place run.files c.word.result.now c.word.ensures (run_file_name run) _ _
    _ _ c.loop-place.invariant.notes (c.in_err-image.ensures.stopped (run_file_name run) c.word.ensures))

pub returns-in-Err-clause-stopped : goal.returns-in-Err-clause-stopped
returns-in-Err-clause-stopped g c =
    let run = c.args.run.now in
    stop-behind-read c.loop-place.place run.files c.word.result.now c.word.ensures (run_file_name run) _ _ _ c.loop-place.invariant.notes c.in_ok-image.ensures.noted

pub returns-clause-noted : goal.returns-clause-noted
returns-clause-noted g c =
    rw (take_all c.loop-place.place c.args.run.now.files (omega (arith, c.len-place-end.ensures))) at c.loop-place.invariant.notes
