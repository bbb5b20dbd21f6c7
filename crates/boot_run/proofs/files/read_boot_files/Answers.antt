use Rattle.std.proofs.Common.{◌≡◌, [], ◌∷◌, refl, ap, subst, ◌∙◌}
use Rattle.std.specs.Prelude.{IfSome}
use Rattle.std.proofs.lemmas.Result.{err_from_is_err_and}
use Rattle.os9_outer.specs.Host.{file_contents}
use Rattle.boot_run.specs.Images.{images_of}
use Rattle.boot_run.specs.World.{World}
use Rattle.boot_run.specs.End.{run_file_name}
use Rattle.boot_run.specs.FileNames.{script_names}
use Rattle.boot_run.proofs.FileLemmas.{has-boot-files}
use Rattle.boot_run.proofs.ReadLemmas.{read-then, stop-before, stop-behind, stops-after}
use Rattle.boot_run.proofs.files.read_boot_files.Goals as goal

pub returns-in_err-script-clause-ended : goal.returns-in_err-script-clause-ended
returns-in_err-script-clause-ended g c =
    let gave = err_from_is_err_and c.from_residual.result c.from_residual.ensures.1 in
    rw (gave.1, gave.2) (λ devices. c.in_err-script.ensures.ended devices)

pub returns-in_err-slices-clause-ended : goal.returns-in_err-slices-clause-ended
returns-in_err-slices-clause-ended g c =
    let gave = err_from_is_err_and c.from_residual-in_err-slices.result c.from_residual-in_err-slices.ensures.1 in
    rw (gave.1, gave.2) (λ devices. stops-after (run_file_name c.args.run.now) _ _ _ _ (c.in_ok-script.ensures.kept
    devices) (c.in_err-slices.ensures.ended devices (run_file_name c.args.run.now) refl))

pub returns-in_err-images-clause-ended : goal.returns-in_err-images-clause-ended
returns-in_err-images-clause-ended g c =
    let gave = err_from_is_err_and c.from_residual-in_err-images.result c.from_residual-in_err-images.ensures.1 in
    rw (gave.1, gave.2) (λ devices. stops-after (run_file_name c.args.run.now) _ _ _ _ (c.in_ok-slices.ensures.kept
    devices ∙ c.in_ok-script.ensures.kept devices) (c.in_err-images.ensures.ended devices))

pub returns-clause-contents : goal.returns-clause-contents
returns-clause-contents g c =
    let slices = subst (λ told. IfSome told (λ files. c.in_ok-slices.slices.items ≡ file_contents files
    c.args.run.now.slices)) (ap (λ (w : World). w.files) (c.in_ok-script.ensures.kept
    (record { drives = []; terms = [] }))) c.in_ok-slices.ensures.contents in
    let images = subst (λ told. IfSome told (λ files. c.in_ok-images.images ≡ images_of files c.args.run.now.files))
    (ap (λ (w : World). w.files) (c.in_ok-slices.ensures.kept (record { drives = []; terms = [] }) ∙
    c.in_ok-script.ensures.kept (record { drives = []; terms = [] }))) c.in_ok-images.ensures.contents in
    has-boot-files _ c.args.run.now _ c.in_ok-script.ensures.contents slices images

pub returns-clause-kept : goal.returns-clause-kept
returns-clause-kept g c devices =
    c.in_ok-images.ensures.kept devices ∙ c.in_ok-slices.ensures.kept devices ∙ c.in_ok-script.ensures.kept devices

-- ---- the names

pub returns-in_err-script-clause-stopped : goal.returns-in_err-script-clause-stopped
returns-in_err-script-clause-stopped g c =
    let run = c.args.run.now in
    let gave = err_from_is_err_and c.from_residual.result c.from_residual.ensures.1 in
    rw (gave.1, gave.2) (stop-before (run_file_name run) _ _ (script_names run) (run.slices ∷ run.files) _ c.in_err-script.ensures.stopped)

pub returns-in_err-slices-clause-stopped : goal.returns-in_err-slices-clause-stopped
returns-in_err-slices-clause-stopped g c =
    let run = c.args.run.now in
    let gave = err_from_is_err_and c.from_residual-in_err-slices.result c.from_residual-in_err-slices.ensures.1 in
    rw (gave.1, gave.2) (stop-behind (run_file_name run) _ _ _ (script_names run) (run.slices ∷ run.files) _
    c.in_ok-script.ensures.noted (stop-before (run_file_name run) _ _ (run.slices ∷ []) run.files _
    (c.in_err-slices.ensures.stopped (run_file_name run) refl)))

pub returns-in_err-images-clause-stopped : goal.returns-in_err-images-clause-stopped
returns-in_err-images-clause-stopped g c =
    let run = c.args.run.now in
    let gave = err_from_is_err_and c.from_residual-in_err-images.result c.from_residual-in_err-images.ensures.1 in
    rw (gave.1, gave.2) (stop-behind (run_file_name run) _ _ _ (script_names run) (run.slices ∷ run.files) _
    c.in_ok-script.ensures.noted (stop-behind (run_file_name run) _ _ _ (run.slices ∷ []) run.files _
    c.in_ok-slices.ensures.noted c.in_err-images.ensures.stopped))

pub returns-clause-noted : goal.returns-clause-noted
returns-clause-noted g c =
    let run = c.args.run.now in
    read-then (script_names run) (run.slices ∷ run.files) _ _ _ c.in_ok-script.ensures.noted (read-then (run.slices ∷ []) run.files _ _ _ c.in_ok-slices.ensures.noted c.in_ok-images.ensures.noted)
