-- Files and directories that are made by their paths.
use Rattle.std.specs.Prelude.{◌≡◌, ◌⊎◌, ℕ, false, Option, Some, None, List, Result, Ok, Err}
use Rattle.os9_base.specs.declared.registers.TimePacket.{TimePacket}
use Rattle.rbf_model.specs.Volume.{DiskVolume}
use Rattle.rbf_change.specs.Names.{is_dots}
use Rattle.rbf_change.specs.NewFiles.{EntersNewFile, Plan, file_plan, directory_plan}
use Rattle.rbf_access.specs.Mounted.{RepresentsVolume}
use Rattle.vol_tools.specs.Names.{place}
use Rattle.vol_tools.specs.declared.place.Place.{Place}
use Rattle.vol_tools.specs.Numbers.{making_number}
use Rattle.vol_tools.specs.Path.{place_of}
use Rattle.vol_tools.specs.Refusals.{MakingStops}
use Rattle.vol_tools.specs.Tool.{LeadsTo, file_attributes, directory_attributes}
use Rattle.vol_tools.specs.declared.fault.ToolFault.{ToolFault}
use Rattle.vol_tools.specs.declared.fault.ToolFault.TheVariants.{Number, Device, OutOfMemory}

-- the place that a path gives, whose name is neither `.` nor `..`
pub record IsNewPlaceOf (path : List ℕ) (at : Place) : Type 0 where
  pub is : place_of path ≡ Some (place at)
  pub proper : is_dots at.name ≡ false

-- the file or directory to be made: its size, and its plan, by the numbers of its directory and its own
pub record Making : Type 0 where
  pub size : ℕ
  pub plan : ℕ → ℕ → Plan

abbrev pub new_file : TimePacket → Making
new_file now = record { size = 0; plan = λ d n. file_plan file_attributes 0 now }

abbrev pub new_directory : TimePacket → Making
new_directory now = record { size = 64; plan = directory_plan directory_attributes 0 now }

-- it has been made, and is file n
pub record MadeOn (making : Making) (path : List ℕ) (v : DiskVolume) (n : ℕ) (new : Option (List ℕ)) : Type 0 where
  pub allowed : making_number v making.size (place_of path) ≡ None
  pub volume : DiskVolume
  pub on : RepresentsVolume new volume
  pub directory : ℕ
  pub name : List ℕ
  pub leads : LeadsTo v path directory name
  pub enters : EntersNewFile v volume directory n name (making.plan directory n)

-- a fault of the drive has ended it: nothing has changed, or it would not have been refused, and clusters may be lost
pub record ToolMakingEnds (making : Making) (path : List ℕ) (v : DiskVolume) (new : Option (List ℕ)) : Type 0 where
  pub volume : DiskVolume
  pub on : RepresentsVolume new volume
  pub ends : (volume ≡ v)
      ⊎ ((making_number v making.size (place_of path) ≡ None) × MakingStops v volume path making.plan)

-- each answer of a call that makes it
abbrev pub AnswersMaking : Making → List ℕ → DiskVolume → Option (List ℕ) → Option (List ℕ) → Result ℕ ToolFault
    → Type 0
AnswersMaking making path v old new (Ok n) = MadeOn making path v n new
AnswersMaking making path v old new (Err (Number n)) =
    (making_number v making.size (place_of path) ≡ Some n) × (new ≡ old)
AnswersMaking making path v old new (Err (Device n)) = ToolMakingEnds making path v new
AnswersMaking making path v old new (Err OutOfMemory) = ⊥

-- the same on the volume that the media represented before
abbrev pub MakesOn : Making → Place → Option (List ℕ) → Option (List ℕ) → Result ℕ ToolFault → Type 0
MakesOn making at old new result =
    (path : List ℕ) (v : DiskVolume) → IsNewPlaceOf path at → RepresentsVolume old v
    → AnswersMaking making path v old new result
