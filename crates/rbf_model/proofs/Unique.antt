-- An image stands for one volume at most.
use Rattle.std.proofs.Common.{◌≡◌, ◌↔◌, ℕ, List, Option, Some, None, IsSome, refl, sym, ap, ◌∙◌, subst, true}
use Rattle.std.proofs.lemmas.Bool.{false≢true}
use Rattle.std.proofs.lemmas.Bool.Decides.{same_from_decides}
use Rattle.rbf_model.specs.Disk.{disk_of}
use mathlib.Core.Path.{fun_ext}
use Rattle.rbf_model.specs.Geometry.{Geometry, geometry, sector}
use Rattle.rbf_model.specs.File.{file_at}
use Rattle.rbf_model.specs.Space.{IsLost, is_marked}
use Rattle.rbf_model.specs.Volume.{DiskVolume, Sound, Vol}
use Rattle.rbf_model.proofs.Keeps.{found}

-- options that are something together, and then the same
same_option : {X : Type 0} (x : X) (o p : Option X) → (IsSome o → IsSome p) → (IsSome p → IsSome o) → ((y : X) → o ≡ Some y → y ≡ x) → ((y : X) → p ≡ Some y → y ≡ x) → o ≡ p
same_option x None None there back one other = refl
same_option x None (Some b) there back one other = absurd (false≢true (back refl))
same_option x (Some a) None there back one other = absurd (false≢true (there refl))
same_option x (Some a) (Some b) there back one other = ap Some (one a refl ∙ sym (other b refl))

-- volumes with the same parts
same_volume : (v w : DiskVolume) → v.ident ≡ w.ident → v.files ≡ w.files → v.lost ≡ w.lost → v.rest ≡ w.rest → v ≡ w
same_volume v w p q r s = λ i. record { ident = p i; files = q i; lost = r i; rest = s i }

module _ (g : Geometry) (disk : ℕ → List ℕ) (v w : DiskVolume) (one : Sound (disk_of g disk) v) (other : Sound (disk_of g disk) w) where
  same_files : v.files ≡ w.files
  same_files = fun_ext (λ n. same_option (file_at disk n) (v.files n) (w.files n)
      (λ h. (found g disk w other n).1 ((found g disk v one n).0 h)) (λ h. (found g disk v one n).1 ((found g disk w other n).0 h))
      (one.shows.shown n) (other.shows.shown n))

  same_lost : v.lost ≡ w.lost
  same_lost = fun_ext (λ c. same_from_decides (v.lost c) (w.lost c) (one.mapped.lost_are c)
      (subst (λ files. (w.lost c ≡ true) ↔ IsLost g (is_marked disk) files c) (sym same_files) (other.mapped.lost_are c)))

  -- a disk stands for one volume at most, but for the bytes past its total
  pub one_volume : v.rest ≡ w.rest → v ≡ w
  one_volume rest = same_volume v w (one.shows.ident ∙ sym other.shows.ident) same_files same_lost rest

pub vol_is_unique : (image : List ℕ) (v w : DiskVolume) → Vol image v → Vol image w → v ≡ w
vol_is_unique image v w one other =
    one_volume (geometry (sector image 0)) (sector image) v w one.sound other.sound (one.rest ∙ sym other.rest)
