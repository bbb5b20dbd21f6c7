-- The disk of a seed boots the file of that seed.
use Rattle.std.proofs.Common.{◌≡◌, ℕ, ◌*◌, ◌<◌, Some, List, [], ◌∷◌, All, length, take, drop, slice_get, sym, ap, ap₂, ◌∙◌, subst, arith}
use Rattle.std.proofs.lemmas.List.Elements.{All-cons}
use Rattle.guest_mods.specs.BootDisk.{BootsFile, boot_volume, sector_with}
use Rattle.boot_run.specs.BootFile.{HasBootFile, IsBootFile, IsVolume, boot_file_of}
use Rattle.guest_mods.specs.Stress.{stress_file}
use Rattle.guest_mods.specs.declared.load.Load.{Load}
use Rattle.rbf_model.specs.Fields.{total_field}
use Rattle.rbf_model.specs.Geometry.{image_geometry}
use Rattle.rbf_model.specs.Volume.{Vol}
use Rattle.stress_run.specs.Disk.{IsDiskOf, seed_disk, seed_file}

-- ---- any disk with a boot file

total-is : (file image : List ℕ) → Vol image (boot_volume file) → (image_geometry image).total ≡ 4096
unfolding sector_with
total-is file image represents = ap total_field (sym represents.sound.shows.ident)

module _ (file image : List ℕ) (represents : Vol image (boot_volume file)) (boots : BootsFile image file) where
  has-file : 0 < length file → HasBootFile image
  has-file some = record {
    placed = λ none. absurd (omega (arith, boots.place));
    some = λ none. absurd (omega (arith, boots.size));
    within = omega (arith, boots.place, boots.size, boots.within, boots.long, total-is file image represents);
  }

  file-is : boot_file_of image ≡ file
  file-is = ap₂ (λ size place. take size (drop (256 * place) image)) boots.size boots.place ∙ boots.bytes

-- a boot file of a load has bytes
file-some : (load : Load) → 0 < length (stress_file load)
file-some load = omega arith

-- ---- the disk of a seed

first-is : (image disk : List ℕ) (images : List (List ℕ)) → images ≡ disk ∷ [] → slice_get images 0 ≡ Some image → image ≡ disk
first-is image disk images only first = some-same (sym first ∙ ap (λ (it : List (List ℕ)). slice_get it 0) only)
  where
    some-same : Some image ≡ Some disk → image ≡ disk
    some-same same = cc

module _ (seed : ℕ) (images : List (List ℕ)) (is : IsDiskOf seed images) where
  pub are-volumes : All IsVolume images
  are-volumes =
      subst (All IsVolume) (sym is.only) (All-cons IsVolume (seed_disk seed) [] (boot_volume (seed_file seed), is.volume) (λ k d low. absurd (omega arith)))

  pub has-boot_file : (image : List ℕ) → slice_get images 0 ≡ Some image → HasBootFile image
  has-boot_file image first =
      subst HasBootFile (sym (first-is image (seed_disk seed) images is.only first)) (has-file (seed_file seed) (seed_disk seed) is.volume is.boots (file-some _))

  pub boots-seed_file : (file : List ℕ) → IsBootFile images file → file ≡ seed_file seed
  boots-seed_file file booted =
      booted.is ∙ ap boot_file_of (first-is booted.image (seed_disk seed) images is.only booted.first) ∙ file-is (seed_file seed) (seed_disk seed) is.volume is.boots
