-- The image of a volume whose ends were kept, and the images at the end of a run.
use Rattle.std.proofs.Common.{◌≡◌, ℕ, ◌+◌, ◌-◌, ◌*◌, ◌≤◌, Some, List, length, sym, ap, ◌∙◌, subst, arith}
use Rattle.std.specs.Prelude.{drop, slice_get}
use Rattle.std.proofs.lemmas.List.{length-drop}
use Rattle.std.proofs.lemmas.Option.{same_Some}
use Rattle.rbf_model.specs.Geometry.{geometry, image_geometry, sector}
use Rattle.rbf_model.specs.Volume.{DiskVolume, Vol}
use Rattle.file_rules.specs.Files.{volume_at}
use Rattle.machine_model.specs.Run.{Run}
use Rattle.machine_model.specs.Start.{Boot, Starts}
use Rattle.machine_model.specs.State.{State}
use Rattle.run_laws.specs.Ends.{KeepsVolumeEnds}
use Rattle.run_laws.specs.Images.{IsWrittenBack}
use Rattle.run_laws.proofs.EndsAlong.{run-keeps-ends}
use Rattle.run_laws.proofs.Starts.{start-has-images}

-- an image is its volume and the bytes behind it
parts : (long total rest : ℕ) → 256 * total ≤ long → rest ≡ long - 256 * total → long ≡ 256 * total + rest
parts long total rest fits behind = omega (arith, fits, behind)

whole : (image : List ℕ) (v : DiskVolume) → Vol image v → length image ≡ 256 * (image_geometry image).total + length v.rest
whole image v vol =
    parts (length image) (image_geometry image).total (length v.rest) vol.header.fits
    (ap (λ (xs : List ℕ). length xs) vol.rest ∙ length-drop (256 * (image_geometry image).total) image)

module _ (old new : List ℕ) (v w : DiskVolume) (was : Vol old v) (is : Vol new w) (kept : KeepsVolumeEnds v w) where
  first-same : sector new 0 ≡ sector old 0
  first-same = sym is.sound.shows.ident ∙ kept.ident ∙ was.sound.shows.ident

  as-long : length new ≡ length old
  as-long =
      whole new w is
      ∙ ap (λ (first : List ℕ). 256 * (geometry first).total + length w.rest) first-same
      ∙ ap (λ (rest : List ℕ). 256 * (image_geometry old).total + length rest) kept.rest
      ∙ sym (whole old v was)

  rest-same : drop (256 * (image_geometry old).total) new ≡ drop (256 * (image_geometry old).total) old
  rest-same =
      ap (λ (first : List ℕ). drop (256 * (geometry first).total) new) (sym first-same) ∙ sym is.rest ∙ kept.rest ∙ was.rest

  pub written-back : IsWrittenBack old new w
  written-back = record { as_long = as-long; first_kept = first-same; rest_kept = rest-same; volume = is }

pub images-keep-ends : (boot : Boot) (slices written : List ℕ) (s t : State) (states : List State) → Starts boot s
    → Run slices s states written t → (n : ℕ) (old new : List ℕ) (w : DiskVolume) → slice_get boot.images n ≡ Some old
    → volume_at t.files n ≡ Some w → Vol new w → IsWrittenBack old new w
images-keep-ends boot slices written s t states starts run n old new w at there is =
    let (v, first, was) = start-has-images boot s starts n old at in
    let (u, last, kept) = (run-keeps-ends slices written s t states run).kept n v first in
    written-back old new v w was is (subst (KeepsVolumeEnds v) (same_Some u w (sym last ∙ there)) kept)
