-- The clusters of a cut file that are given back, sector by sector of the map.
use Rattle.std.specs.Prelude.{◌≡◌, ℕ, Bool, true, false, List, Option, Some, Result, Ok, Err}
use Rattle.rbf_model.specs.Volume.{DiskVolume, Vol}
use Rattle.rbf_change.specs.Agrees.{MountedPart, Agrees}
use Rattle.rbf_alloc.specs.Cleared.{MayClear, AreMarksCleared, before}
use Rattle.rbf_alloc.specs.declared.rest.CutSectors.{CutSectors}
use Rattle.rbf_alloc.specs.Rest.{in_rest}

-- the media represents the volume, in which the clusters that are given up are lost
pub record IsReleasing (v : DiskVolume) (old : List ℕ) (k : ℕ) (cut : CutSectors) (media : Option (List ℕ))
    (kept : MountedPart) : Type 0 where
  pub is : media ≡ Some old
  pub vol : Vol old v
  pub agrees : Agrees kept old
  pub may : MayClear v old (in_rest k cut)

-- the same for some volume
pub record MayRelease (k : ℕ) (cut : CutSectors) (media : Option (List ℕ)) (kept : MountedPart) : Type 0 where
  pub volume : DiskVolume
  pub old : List ℕ
  pub is : IsReleasing volume old k cut media kept

-- a fault occurred at a sector of the map that has a mark of the clusters; those with their mark in an earlier sector
-- have been given back
pub record ReleaseEnds (v : DiskVolume) (old : List ℕ) (gone : ℕ → Bool) (media : Option (List ℕ)) (kept : MountedPart)
    : Type 0 where
  pub place : ℕ
  pub cleared : AreMarksCleared v old (before gone place) media kept
  pub some : ℕ
  pub given_up : gone some ≡ true
  pub still : before gone place some ≡ false

-- by the answer: all of them have been given back, or a fault occurred
abbrev pub AnswersRelease : {Done Fault : Type 0} → DiskVolume → List ℕ → (ℕ → Bool) → Option (List ℕ) → MountedPart
    → Result Done Fault → Type 0
AnswersRelease v old gone media kept (Ok done) = AreMarksCleared v old gone media kept
AnswersRelease v old gone media kept (Err fault) = ReleaseEnds v old gone media kept
