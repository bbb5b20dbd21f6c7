-- The volumes with which a machine starts: those of its images, in its first drives.
use Rattle.std.proofs.Common.{◌≡◌, ℕ, zero, suc, ◌-◌, Option, Some, None, List, [], ◌∷◌, ◌++◌, length, map, refl, sym, ap, ◌∙◌, subst}
use Rattle.std.specs.Prelude.{replicate, slice_get, slice_index_or}
use Rattle.std.specs.List.{AllZip}
use Rattle.std.proofs.lemmas.Option.{none-some, same_Some}
use Rattle.rbf_model.specs.Volume.{DiskVolume, Vol}
use Rattle.file_rules.specs.Files.{Files, volume_at}
use Rattle.machine_model.specs.Start.{Boot, Starts}
use Rattle.machine_model.specs.State.{State}

-- so many drives without a volume
abbrev no_volumes : ℕ → List (Option DiskVolume)
no_volumes count = replicate count None

-- the volumes in the first drives, and none in so many more
abbrev first_volumes : List DiskVolume → ℕ → List (Option DiskVolume)
first_volumes volumes more = map (λ v. Some v) volumes ++ no_volumes more

volume-of : (images : List (List ℕ)) (volumes : List DiskVolume) (more : ℕ) → AllZip Vol images volumes
    → (n : ℕ) (image : List ℕ) → slice_get images n ≡ Some image → (v : DiskVolume) ×
    (slice_index_or (first_volumes volumes more) n None ≡ Some v) × Vol image v
volume-of [] volumes more all n image at = absurd (none-some image at)
volume-of (first ∷ images) [] more all n image at = absurd all
volume-of (first ∷ images) (v ∷ volumes) more all zero image at =
    (v, refl, subst (λ (image : List ℕ). Vol image v) (same_Some first image at) all.0)
volume-of (first ∷ images) (v ∷ volumes) more all (suc n) image at = volume-of images volumes more all.1 n image at

none-of : (more n : ℕ) → slice_index_or (no_volumes more) n None ≡ None
none-of zero n = refl
none-of (suc more) zero = refl
none-of (suc more) (suc n) = none-of more n

none-behind : (images : List (List ℕ)) (volumes : List DiskVolume) (more : ℕ) → AllZip Vol images volumes → (n : ℕ)
    → slice_get images n ≡ None → slice_index_or (first_volumes volumes more) n None ≡ None
none-behind [] [] more all n none = none-of more n
none-behind [] (v ∷ volumes) more all n none = absurd all
none-behind (first ∷ images) [] more all n none = absurd all
none-behind (first ∷ images) (v ∷ volumes) more all zero none = absurd (none-some first (sym none))
none-behind (first ∷ images) (v ∷ volumes) more all (suc n) none = none-behind images volumes more all.1 n none

module _ (boot : Boot) (s : State) (starts : Starts boot s) where
  volumes-are : (n : ℕ) → volume_at s.files n ≡ slice_index_or (first_volumes starts.mounted.volumes (length boot.drives - length starts.mounted.volumes)) n None
  volumes-are n =
      ap (λ (s : State). volume_at s.files n) starts.is ∙ ap (λ (files : Files). volume_at files n) starts.mounted.is

  pub start-has-images : (n : ℕ) (image : List ℕ) → slice_get boot.images n ≡ Some image → (v : DiskVolume) × (volume_at s.files n ≡ Some v) × Vol image v
  start-has-images n image at =
      let (v, there, vol) = volume-of boot.images starts.mounted.volumes (length boot.drives - length starts.mounted.volumes) starts.mounted.mounted n image at in
      (v, volumes-are n ∙ there, vol)

  pub start-has-no-more : (n : ℕ) → slice_get boot.images n ≡ None → volume_at s.files n ≡ None
  start-has-no-more n none =
      volumes-are n ∙ none-behind boot.images starts.mounted.volumes (length boot.drives - length starts.mounted.volumes) starts.mounted.mounted n none
