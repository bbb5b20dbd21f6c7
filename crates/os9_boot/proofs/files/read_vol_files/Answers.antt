use Rattle.std.proofs.Common.{◌≡◌, [], ◌∷◌, ap, subst, ◌∙◌}
use Rattle.std.proofs.lemmas.Result.{err_from_is_err_and}
use Rattle.std.specs.Prelude.{IfSome}
use Rattle.os9_outer.specs.Host.{file_contents}
use Rattle.os9_words.specs.declared.vol_words.Verb.TheVariants.{Put}
use Rattle.boot_run.specs.World.{World}
use Rattle.boot_run.proofs.ReadLemmas.{read-then, stop-before, stop-behind, stops-after}
use Rattle.os9_boot.specs.Vol.{file_names, file_of, vol_file_name}
use Rattle.os9_boot.proofs.ReadLemmas.{has-both, inputs-are}
use Rattle.os9_boot.proofs.files.read_vol_files.Goals as goal

pub returns-in_err-image-clause-ended : goal.returns-in_err-image-clause-ended
returns-in_err-image-clause-ended g c =
    let gave = err_from_is_err_and c.from_residual.result c.from_residual.ensures.1 in
    rw (gave.1, gave.2) (λ devices. c.in_err-image.ensures.ended devices)

pub returns-in_err-image-clause-may : goal.returns-in_err-image-clause-may
returns-in_err-image-clause-may g c =
    let gave = err_from_is_err_and c.from_residual.result c.from_residual.ensures.1 in
    rw (gave.1, gave.2) c.in_err-image.ensures.may

pub returns-in_err-image-clause-noted : goal.returns-in_err-image-clause-noted
returns-in_err-image-clause-noted g c =
    let vol = c.args.vol.now in
    let gave = err_from_is_err_and c.from_residual.result c.from_residual.ensures.1 in
    rw (gave.1, gave.2, inputs-are vol.verb vol c.requires.image) (stop-before (vol_file_name vol) _ _ (vol.image ∷ []) (file_names vol.verb vol) _ c.in_err-image.ensures.noted)

pub returns-in_err-file-clause-ended : goal.returns-in_err-file-clause-ended
returns-in_err-file-clause-ended g c =
    let gave = err_from_is_err_and c.from_residual-in_err-file.result c.from_residual-in_err-file.ensures.1 in
    rw (gave.1, gave.2) (λ devices. stops-after (vol_file_name c.args.vol.now) _ _ _ _ (c.in_ok-image.ensures.kept devices) (c.in_err-file.ensures.ended devices))

pub returns-in_err-file-clause-may : goal.returns-in_err-file-clause-may
returns-in_err-file-clause-may g c =
    let gave = err_from_is_err_and c.from_residual-in_err-file.result c.from_residual-in_err-file.ensures.1 in
    rw (gave.1, gave.2) c.in_err-file.ensures.may

pub returns-in_err-file-clause-noted : goal.returns-in_err-file-clause-noted
returns-in_err-file-clause-noted g c =
    let vol = c.args.vol.now in
    let gave = err_from_is_err_and c.from_residual-in_err-file.result c.from_residual-in_err-file.ensures.1 in
    rw (gave.1, gave.2, inputs-are vol.verb vol c.requires.image) (stop-behind (vol_file_name vol) _ _ _
    (vol.image ∷ []) (file_names vol.verb vol) _ c.in_ok-image.ensures.noted c.in_err-file.ensures.noted)

pub returns-clause-contents : goal.returns-clause-contents
returns-clause-contents g c =
    let vol = c.args.vol.now in
    let file = subst (λ told. IfSome told (λ files. vol.verb ≡ Put → c.in_ok-file.file.items ≡ file_contents files
    (file_of vol))) (ap (λ (w : World). w.files) (c.in_ok-image.ensures.kept
    (record { drives = []; terms = [] }))) c.in_ok-file.ensures.contents in
    has-both vol _ _ c.in_ok-image.ensures.contents file

pub returns-clause-kept : goal.returns-clause-kept
returns-clause-kept g c devices = c.in_ok-file.ensures.kept devices ∙ c.in_ok-image.ensures.kept devices

pub returns-clause-noted : goal.returns-clause-noted
returns-clause-noted g c =
    let vol = c.args.vol.now in
    rw (inputs-are vol.verb vol c.requires.image) (read-then (vol.image ∷ []) (file_names vol.verb vol) _ _ _ c.in_ok-image.ensures.noted c.in_ok-file.ensures.noted)
