-- What the tools leave unchanged in addition to the volume: LSN 0, and the bits of the map without a whole cluster.
use Rattle.std.specs.Prelude.{◌≡◌, ◌⊎◌, ℕ, ◌*◌, ◌<◌, true, false, Option, Some, None, List}
use Rattle.rbf_model.specs.File.{DiskFile}
use Rattle.rbf_model.specs.Geometry.{image_geometry, sector}
use Rattle.rbf_model.specs.Space.{has_cluster, is_marked}
use Rattle.rbf_model.specs.Volume.{DiskVolume, Vol}
use Rattle.rbf_change.specs.Tidy.{IsMapEnd}
use Rattle.vol_tools.specs.Tool.{Tool, remove}

-- they are unchanged
pub record KeepsTail (image now : List ℕ) : Type 0 where
  pub first : sector now 0 ≡ sector image 0
  pub bits : (c : ℕ) → IsMapEnd image c → is_marked (sector now) c ≡ is_marked (sector image) c

-- the mark of a last cluster that is not whole is clear now, and the file that had the cluster is removed
pub record IsGivenUp (image now : List ℕ) (c : ℕ) : Type 0 where
  pub clear : is_marked (sector now) c ≡ false
  pub before : DiskVolume
  pub was : Vol image before
  pub after : DiskVolume
  pub is : Vol now after
  pub number : ℕ
  pub file : DiskFile
  pub there : before.files number ≡ Some file
  pub had : has_cluster (image_geometry image) number file c ≡ true
  pub low : c * (image_geometry image).cluster < (image_geometry image).total
  pub gone : after.files number ≡ None

-- they are unchanged, except the mark of a cluster that is given up
pub record KeepsTailUnused (image now : List ℕ) : Type 0 where
  pub first : sector now 0 ≡ sector image 0
  pub bits : (c : ℕ) → IsMapEnd image c
      → (is_marked (sector now) c ≡ is_marked (sector image) c) ⊎ IsGivenUp image now c

-- the same by the tool
abbrev pub KeepsTailBy : Tool → (image now : List ℕ) → Type 0
KeepsTailBy (remove path) image now = KeepsTailUnused image now
KeepsTailBy tool image now = KeepsTail image now

-- it holds for the images on the media before and now
abbrev pub OnMedia : (List ℕ → List ℕ → Type 0) → Option (List ℕ) → Option (List ℕ) → Type 0
OnMedia holds old new = (image now : List ℕ) → old ≡ Some image → new ≡ Some now → holds image now
