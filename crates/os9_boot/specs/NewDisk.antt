-- Tools that are used in turn on a new disk.
use Rattle.std.specs.Prelude.{ℕ, Option, List}
use Rattle.os9_base.specs.declared.registers.TimePacket.{TimePacket}
use Rattle.rbf_model.specs.Volume.{DiskVolume}
use Rattle.rbf_access.specs.Mounted.{RepresentsVolume}
use Rattle.vol_tools.specs.Blank.{blank_volume}
use Rattle.vol_tools.specs.UsesInTurn.{Use, GivesInTurn}

-- a formatted disk: its sectors, those of a cluster, and the time of its formatting
pub record NewDisk : Type 0 where
  pub sectors : ℕ
  pub cluster : ℕ
  pub made : TimePacket

-- the media represents the volume that a list of tools gives of the volume without files
pub record LeavesNew (disk : NewDisk) (uses : List Use) (new : Option (List ℕ)) (answers : List (List ℕ)) : Type 0 where
  pub after : DiskVolume
  pub is : RepresentsVolume new after
  pub gives : GivesInTurn uses (blank_volume disk.sectors disk.cluster disk.made) after answers
