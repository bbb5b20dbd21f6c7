-- The disk of a stress.
use Rattle.std.specs.Prelude.{◌≡◌, ℕ, List, [], ◌∷◌}
use Rattle.guest_mods.specs.BootDisk.{BootsFile, boot_image, boot_volume}
use Rattle.rbf_model.specs.Volume.{Vol}
use Rattle.guest_mods.specs.Stress.{stress_file}
use Rattle.stress_run.specs.Stress.{stress_load}

-- the boot file of a seed, and the disk that boots it
abbrev pub seed_file : ℕ → List ℕ
seed_file seed = stress_file (stress_load seed)

abbrev pub seed_disk : ℕ → List ℕ
seed_disk seed = boot_image (seed_file seed)

-- the disk of a seed is the only image; its volume has the boot file of that seed, which it boots
pub record IsDiskOf (seed : ℕ) (images : List (List ℕ)) : Type 0 where
  pub only : images ≡ seed_disk seed ∷ []
  pub volume : Vol (seed_disk seed) (boot_volume (seed_file seed))
  pub boots : BootsFile (seed_disk seed) (seed_file seed)
