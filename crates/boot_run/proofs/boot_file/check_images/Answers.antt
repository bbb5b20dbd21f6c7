use Rattle.std.proofs.Common.{◌≡◌, ◌<◌, ◌+◌, suc, length, subst, All, arith}
use Rattle.std.proofs.lemmas.List.{take_all}
use Rattle.std.proofs.lemmas.Result.{err_from_is_err_and}
use Rattle.boot_run.specs.BootFile.{IsVolume}
use Rattle.boot_run.proofs.BootFileLemmas.{first-fault, volumes-more}
use Rattle.boot_run.proofs.boot_file.check_images.Goals as goal

pub loop-number-preserved : goal.loop-number-preserved
loop-number-preserved c =
    let below : c.loop-number.number < length c.args.images.now = omega (arith, c.len-number-end.ensures) in
    let next : c.loop-number.number + 1 ≡ suc c.loop-number.number = omega arith in
    record {
      within = omega arith;
      volumes = rw next (volumes-more c.loop-number.number c.args.images.now c.image.result.now c.image.ensures c.loop-number.invariant.volumes c.in_ok-check_image.ensures.well_formed);
    }

pub returns-clause-well_formed : goal.returns-clause-well_formed
returns-clause-well_formed c =
    subst (λ images. All IsVolume images) (take_all c.loop-number.number c.args.images.now (omega (arith, c.len-number-end.ensures))) c.loop-number.invariant.volumes

pub returns-in_err-check_image-clause-refused : goal.returns-in_err-check_image-clause-refused
returns-in_err-check_image-clause-refused c =
    let gave = err_from_is_err_and c.from_residual.result c.from_residual.ensures.1 in
    rw (gave.1, gave.2) (first-fault c.args.images.now c.loop-number.number c.image.result.now _ c.image.ensures c.loop-number.invariant.volumes c.in_err-check_image.ensures.refused)
