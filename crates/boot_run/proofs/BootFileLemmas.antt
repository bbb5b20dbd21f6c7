-- Images that represent volumes, one after another, and the boot file of the first.
use Rattle.std.proofs.Common.{◌≡◌, ℕ, zero, suc, Some, Result, Ok, Err, List, [], ◌∷◌, Vec, Global, take, slice_get, refl, sym, subst, All}
use Rattle.std.specs.Prelude.{IfErr, IfOk, OnOk}
use Rattle.std.proofs.lemmas.List.Elements.{All-cons, All-head, All-nil, All-tail}
use Rattle.std.proofs.lemmas.Option.{none-some, same_Some}
use Rattle.boot_run.specs.BootFile.{HasBootFile, IsBootFile, IsFirstFault, IsVolume, LacksBootFile, boot_file_of}
use Rattle.boot_run.specs.Faults.{BreaksImage, BreaksImages}
use Rattle.boot_run.specs.declared.boot_file.BootFileFault.{BootFileFault}
use Rattle.boot_run.specs.declared.boot_file.BootFileFault.TheVariants.{Bounds, OutOfMemory}
use Rattle.boot_run.specs.declared.boot_file.ImagesFault.{ImagesFault}
use Rattle.boot_run.specs.declared.boot_file.ImagesFault.TheVariants as Fault

-- one more does
pub volumes-more : (n : ℕ) (images : List (List ℕ)) (image : List ℕ) → slice_get images n ≡ Some image → All IsVolume (take n images) → IsVolume image → All IsVolume (take (suc n) images)
volumes-more n [] image here so_far is = absurd (none-some image here)
volumes-more zero (first ∷ images) image here so_far is =
    All-cons IsVolume first [] (subst IsVolume (sym (same_Some first image here)) is) (All-nil IsVolume)
volumes-more (suc n) (first ∷ images) image here so_far is =
    All-cons IsVolume first (take (suc n) images) (All-head IsVolume first (take n images) so_far) (volumes-more n images image here (All-tail IsVolume first (take n images) so_far) is)

-- the first of images that all represent volumes does
pub first-volume : (images : List (List ℕ)) (image : List ℕ) → All IsVolume images → slice_get images 0 ≡ Some image → IsVolume image
first-volume [] image volumes first = absurd (none-some image first)
first-volume (one ∷ images) image volumes first = subst IsVolume (same_Some one image first) (All-head IsVolume one images volumes)

-- the next is the first that represents none
pub first-fault : (images : List (List ℕ)) (n : ℕ) (image : List ℕ) (fault : ImagesFault) → slice_get images n ≡ Some
    image → All IsVolume (take n images) → BreaksImage n image fault → BreaksImages images fault
first-fault images n image (Fault.Image place fault) here volumes (same, broken) =
    subst (λ (place : ℕ). IsFirstFault images place fault) (sym same) (record { image = image; is = here; others = volumes; broken = broken })
first-fault images n image Fault.OutOfMemory here volumes breaks = tt

pub boot-bytes : (answer : Result (Vec ℕ Global) BootFileFault) (images : List (List ℕ)) (image : List ℕ)
    → slice_get images 0 ≡ Some image → OnOk answer (HasBootFile image)
    → IfOk answer (λ file. file.items ≡ boot_file_of image) → IfOk answer (λ file. IsBootFile images file.items)
boot-bytes (Ok file) images image first has is = record { image = image; first = first; has = has; is = is }
boot-bytes (Err fault) images image first has is = tt

pub boot-lacks : (answer : Result (Vec ℕ Global) BootFileFault) (images : List (List ℕ)) (image : List ℕ)
    → slice_get images 0 ≡ Some image → IfErr answer (λ fault. fault ≡ Bounds → ¬ HasBootFile image)
    → IfErr answer (LacksBootFile images)
boot-lacks (Ok file) images image first refused = tt
boot-lacks (Err Bounds) images image first refused = (image, first, refused refl)
boot-lacks (Err OutOfMemory) images image first refused = tt
