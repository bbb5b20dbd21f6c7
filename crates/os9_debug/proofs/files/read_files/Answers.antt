use Rattle.std.proofs.Common.{◌≡◌, [], ◌∷◌, refl, ap, subst, ◌∙◌}
use Rattle.std.specs.Prelude.{IfSome}
use Rattle.std.proofs.lemmas.Result.{err_from_is_err_and}
use Rattle.os9_outer.specs.Host.{file_contents}
use Rattle.boot_run.specs.World.{World}
use Rattle.boot_run.specs.FileNames.{script_names}
use Rattle.boot_run.proofs.ReadLemmas.{only-one, read-only, read-then, stop-before, stop-behind, stop-only, stops-after}
use Rattle.os9_debug.specs.Debug.{debug_file_name}
use Rattle.os9_debug.proofs.FileLemmas.{has-files, notes-so, stops-so}
use Rattle.os9_debug.proofs.files.read_files.Goals as goal

pub returns-in_err-script-clause-ended : goal.returns-in_err-script-clause-ended
returns-in_err-script-clause-ended g c =
    let gave = err_from_is_err_and c.from_residual.result c.from_residual.ensures.1 in
    rw (gave.1, gave.2) (λ devices. stops-so c.args.debug.now _ _ _ (c.in_err-script.ensures.ended devices))

pub returns-in_err-slices-clause-ended : goal.returns-in_err-slices-clause-ended
returns-in_err-slices-clause-ended g c =
    let gave = err_from_is_err_and c.from_residual-in_err-slices.result c.from_residual-in_err-slices.ensures.1 in
    rw (gave.1, gave.2) (λ devices. stops-after (debug_file_name c.args.debug.now) _ _ _ _
    (c.in_ok-script.ensures.kept devices) (c.in_err-slices.ensures.ended devices
    (debug_file_name c.args.debug.now) refl))

pub returns-in_err-commands-clause-ended : goal.returns-in_err-commands-clause-ended
returns-in_err-commands-clause-ended g c =
    let gave = err_from_is_err_and c.from_residual-in_err-commands.result c.from_residual-in_err-commands.ensures.1 in
    rw (gave.1, gave.2) (λ devices. stops-after (debug_file_name c.args.debug.now) _ _ _ _
    (c.in_ok-slices.ensures.kept devices ∙ c.in_ok-script.ensures.kept devices) (c.in_err-commands.ensures.ended
    devices (debug_file_name c.args.debug.now) refl))

pub returns-in_err-modules-clause-ended : goal.returns-in_err-modules-clause-ended
returns-in_err-modules-clause-ended g c =
    let gave = err_from_is_err_and c.from_residual-in_err-modules.result c.from_residual-in_err-modules.ensures.1 in
    rw (gave.1, gave.2) (λ devices. stops-after (debug_file_name c.args.debug.now) _ _ _ _
    (c.in_ok-commands.ensures.kept devices ∙ c.in_ok-slices.ensures.kept devices ∙ c.in_ok-script.ensures.kept
    devices) (c.in_err-modules.ensures.ended devices (debug_file_name c.args.debug.now) c.word.ensures))

pub returns-clause-contents : goal.returns-clause-contents
returns-clause-contents g c =
    let debug = c.args.debug.now in
    let first = c.in_ok-script.ensures.kept (record { drives = []; terms = [] }) in
    let second = c.in_ok-slices.ensures.kept (record { drives = []; terms = [] }) ∙ first in
    let third = c.in_ok-commands.ensures.kept (record { drives = []; terms = [] }) ∙ second in
    let slices = subst (λ told. IfSome told (λ files. c.in_ok-slices.slices.items ≡ file_contents files debug.run.slices)) (ap (λ (w : World). w.files) first) c.in_ok-slices.ensures.contents in
    let commands = subst (λ told. IfSome told (λ files. c.in_ok-commands.commands.items ≡ file_contents files debug.commands)) (ap (λ (w : World). w.files) second) c.in_ok-commands.ensures.contents in
    let modules = subst (λ told. IfSome told (λ files. c.in_ok-modules.modules.items ≡ file_contents files c.word.result.now)) (ap (λ (w : World). w.files) third) c.in_ok-modules.ensures.contents in
    has-files _ debug _ c.word.result.now c.word.ensures c.in_ok-script.ensures.contents slices commands modules

pub returns-clause-kept : goal.returns-clause-kept
returns-clause-kept g c devices =
    c.in_ok-modules.ensures.kept devices ∙ c.in_ok-commands.ensures.kept devices ∙ c.in_ok-slices.ensures.kept devices ∙ c.in_ok-script.ensures.kept devices

-- ---- the names

pub returns-in_err-script-clause-stopped : goal.returns-in_err-script-clause-stopped
returns-in_err-script-clause-stopped g c =
    let debug = c.args.debug.now in
    let run = debug.run in
    let gave = err_from_is_err_and c.from_residual.result c.from_residual.ensures.1 in
    rw (gave.1, gave.2) (stop-before (debug_file_name debug) _ _ (script_names run) (run.slices ∷ debug.commands ∷
    run.files) _ (notes-so debug (script_names run) _ _ _ c.in_err-script.ensures.stopped))

pub returns-in_err-slices-clause-stopped : goal.returns-in_err-slices-clause-stopped
returns-in_err-slices-clause-stopped g c =
    let debug = c.args.debug.now in
    let run = debug.run in
    let gave = err_from_is_err_and c.from_residual-in_err-slices.result c.from_residual-in_err-slices.ensures.1 in
    rw (gave.1, gave.2) (stop-behind (debug_file_name debug) _ _ _ (script_names run) (run.slices ∷ debug.commands ∷
    run.files) _ c.in_ok-script.ensures.noted (stop-before (debug_file_name debug) _ _ (run.slices ∷ [])
    (debug.commands ∷ run.files) _ (c.in_err-slices.ensures.stopped (debug_file_name debug) refl)))

pub returns-in_err-commands-clause-stopped : goal.returns-in_err-commands-clause-stopped
returns-in_err-commands-clause-stopped g c =
    let debug = c.args.debug.now in
    let run = debug.run in
    let gave = err_from_is_err_and c.from_residual-in_err-commands.result c.from_residual-in_err-commands.ensures.1 in
    rw (gave.1, gave.2) (stop-behind (debug_file_name debug) _ _ _ (script_names run) (run.slices ∷ debug.commands ∷
    run.files) _ c.in_ok-script.ensures.noted (stop-behind (debug_file_name debug) _ _ _ (run.slices ∷ [])
    (debug.commands ∷ run.files) _ c.in_ok-slices.ensures.noted (stop-before (debug_file_name debug) _ _
    (debug.commands ∷ []) run.files _ (c.in_err-commands.ensures.stopped (debug_file_name debug) refl))))

pub returns-in_err-modules-clause-stopped : goal.returns-in_err-modules-clause-stopped
returns-in_err-modules-clause-stopped g c =
    let debug = c.args.debug.now in
    let run = debug.run in
    let only = only-one run.files c.word.result.now c.requires c.word.ensures in
    let gave = err_from_is_err_and c.from_residual-in_err-modules.result c.from_residual-in_err-modules.ensures.1 in
    rw (gave.1, gave.2) (stop-behind (debug_file_name debug) _ _ _ (script_names run) (run.slices ∷ debug.commands ∷
    run.files) _ c.in_ok-script.ensures.noted (stop-behind (debug_file_name debug) _ _ _ (run.slices ∷ [])
    (debug.commands ∷ run.files) _ c.in_ok-slices.ensures.noted (stop-behind (debug_file_name debug) _ _ _
    (debug.commands ∷ []) run.files _ c.in_ok-commands.ensures.noted (stop-only (debug_file_name debug) run.files
    c.word.result.now only _ _ _ (c.in_err-modules.ensures.stopped (debug_file_name debug) c.word.ensures)))))

pub returns-clause-noted : goal.returns-clause-noted
returns-clause-noted g c =
    let debug = c.args.debug.now in
    let run = debug.run in
    let only = only-one run.files c.word.result.now c.requires c.word.ensures in
    read-then (script_names run) (run.slices ∷ debug.commands ∷ run.files) _ _ _ c.in_ok-script.ensures.noted
    (read-then (run.slices ∷ []) (debug.commands ∷ run.files) _ _ _ c.in_ok-slices.ensures.noted
    (read-then (debug.commands ∷ []) run.files _ _ _ c.in_ok-commands.ensures.noted
    (read-only (debug_file_name debug) run.files c.word.result.now only _ _ c.in_ok-modules.ensures.noted)))
