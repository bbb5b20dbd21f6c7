-- The image that was made is the only one.
use Rattle.std.proofs.Common.{ℕ, List, ◌∷◌, [], ◌++◌, ap, ◌∙◌, subst}
use Rattle.guest_mods.specs.BootDisk.{BootsFile, boot_volume}
use Rattle.rbf_model.specs.Volume.{Vol}
use Rattle.stress_run.specs.Disk.{seed_file}
use Rattle.stress_run.proofs.stress.stress_disk.Goals as goal

pub returns : goal.returns
returns c =
    let made = c.in_ok-image.ensures in record {
      only = c.in_ok-push.ensures.pushed ∙ ap (λ (images : List (List ℕ)). images ++ c.in_ok-image.image.items ∷ []) c.none-images.ensures
          ∙ ap (λ (image : List ℕ). image ∷ []) made.bytes;
      volume = subst (λ (image : List ℕ). Vol image (boot_volume (seed_file c.args.seed))) made.bytes made.volume;
      boots = subst (λ (image : List ℕ). BootsFile image (seed_file c.args.seed)) made.bytes made.boots;
    }
