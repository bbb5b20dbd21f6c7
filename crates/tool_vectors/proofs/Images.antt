-- The image of a drive that has been checked.
use Rattle.std.proofs.Common.{◌≡◌, ℕ, Option, Some, List, refl, sym, ap, ◌∙◌, subst}
use Rattle.rbf_model.specs.Volume.{DiskVolume, Vol}
use Rattle.rbf_check.specs.declared.tree.Tree.{Tree}
use Rattle.rbf_check.specs.Tree.{IsTreeOf}
use Rattle.rbf_access.specs.Mounted.{IsSoundMedia, RepresentsVolume}

pub sound_image : (image passed : List ℕ) (tree : Tree) → image ≡ passed → IsTreeOf image tree → IsSoundMedia (Some passed)
sound_image image passed tree same known = (known.volume, record { image = passed; is = refl; vol = subst (λ i. Vol i known.volume) same known.represents })

pub on_copy : (media : Option (List ℕ)) (image copy : List ℕ) (v : DiskVolume) → media ≡ Some copy → copy ≡ image → RepresentsVolume (Some image) v → RepresentsVolume media v
on_copy media image copy v is same on = subst (λ m. RepresentsVolume m v) (sym (is ∙ ap Some same)) on
