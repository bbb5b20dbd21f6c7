use Rattle.std.proofs.Common.{ℕ, List, subst}
use Rattle.boot_run.specs.BootFile.{IsVolume}
use Rattle.os9_boot.specs.VolSteps.{RefusesImage}
use Rattle.os9_boot.proofs.VerbLemmas.{refused-of, refused-still, uses-of}
use Rattle.os9_boot.proofs.verbs.use_verb.Goals as goal

pub returns-in-Err-clause-made : goal.returns-in-Err-clause-made
returns-in-Err-clause-made g c =
    refused-of c.args.vol.now c.args.image.items c.args.file.now c.in-Err.end c.requires.no_disk
    (subst (λ (image : List ℕ). RefusesImage image c.in-Err.end) c.deref.ensures.value c.in-Err.ensures.refused)

pub returns-in-Err-clause-drives : goal.returns-in-Err-clause-drives
returns-in-Err-clause-drives g c =
    refused-still c.deref.result.now c.in-Err.end _ c.requires.room c.in-Err.ensures.refused

pub use_on_image-requires-clause-volume : goal.use_on_image-requires-clause-volume
use_on_image-requires-clause-volume g c = subst IsVolume c.deref.ensures.value c.in-Ok.ensures.well_formed

pub returns-clause-made : goal.returns-clause-made
returns-clause-made g c =
    uses-of c.args.vol.now c.args.image.items c.args.file.now c.requires.no_disk c.requires.no_repair
    (subst IsVolume c.deref.ensures.value c.in-Ok.ensures.well_formed) _ c.tool_for-tool.ensures
    c.use_on_image.result c.use_on_image.ensures.used
