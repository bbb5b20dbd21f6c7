-- Tools that are used in turn on the volume of a drive.
use Rattle.std.specs.Prelude.{◌≡◌, ℕ, Option, List}
use Rattle.rbf_model.specs.Volume.{DiskVolume}
use Rattle.rbf_access.specs.Mounted.{RepresentsVolume}
use Rattle.vol_tools.specs.UsesInTurn.{Use, GivesInTurn}

-- the media represents a volume, and afterwards one that a list of tools gives
pub record LeavesInTurn (uses : List Use) (old new : Option (List ℕ)) (answers : List (List ℕ)) : Type 0 where
  pub before : DiskVolume
  pub was : RepresentsVolume old before
  pub after : DiskVolume
  pub is : RepresentsVolume new after
  pub gives : GivesInTurn uses before after answers
