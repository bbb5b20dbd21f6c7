-- Files and directories that are opened by their paths, and read completely.
use Rattle.std.specs.Prelude.{◌≡◌, ℕ, ◌&&◌, not, true, Bool, Option, Some, List, length, Result, Ok, Err}
use Rattle.rbf_model.specs.File.{DiskFile, is_directory}
use Rattle.rbf_model.specs.Volume.{DiskVolume}
use Rattle.rbf_model.specs.Walk.{arrives, file_permits}
use Rattle.rbf_access.specs.Mounted.{RepresentsVolume}
use Rattle.vol_tools.specs.Numbers.{way_end, reading_number}
use Rattle.vol_tools.specs.declared.fault.ToolFault.{ToolFault}
use Rattle.vol_tools.specs.declared.fault.ToolFault.TheVariants.{Number, Device, OutOfMemory}
use Rattle.vol_tools.specs.declared.opening.Kind.{Kind}
use Rattle.vol_tools.specs.declared.opening.Kind.TheVariants.{File, Directory}
use Rattle.vol_tools.specs.declared.opening.Opened.{Opened}

abbrev pub is_of_kind : Kind → DiskFile → Bool
is_of_kind File file = not (is_directory file)
is_of_kind Directory file = is_directory file

-- names lead to a file of this kind, which user 0 may read
pub record IsOpenedFile (v : DiskVolume) (way : List (List ℕ)) (kind : Kind) (opened : Opened) : Type 0 where
  pub file : DiskFile
  pub there : v.files opened.number ≡ Some file
  pub leads : way_end v way ≡ arrives opened.number
  pub readable : (is_of_kind kind file && file_permits file 0 1) ≡ true
  pub size_is : opened.size ≡ length file.contents

-- the opened file is one of the volume that the media represents
pub record HasOpened (media : Option (List ℕ)) (opened : Opened) : Type 0 where
  pub content : DiskVolume
  pub on : RepresentsVolume media content
  pub file : DiskFile
  pub is : content.files opened.number ≡ Some file
  pub size_is : opened.size ≡ length file.contents

-- each answer of a call that opens a file
abbrev pub AnswersOpening : DiskVolume → List (List ℕ) → Kind → Result Opened ToolFault → Type 0
AnswersOpening v way kind (Ok opened) = IsOpenedFile v way kind opened
AnswersOpening v way kind (Err (Number n)) = reading_number v (is_of_kind kind) (Some way) ≡ Some n
AnswersOpening v way kind (Err (Device n)) = Unit {0}
AnswersOpening v way kind (Err OutOfMemory) = ⊥

-- each answer of a call that gives bytes, which only a fault of the drive or lack of memory can end
abbrev pub AnswersBytes : {A : Type 0} → (A → Type 0) → Result A ToolFault → Type 0
AnswersBytes are (Ok bytes) = are bytes
AnswersBytes are (Err (Number n)) = ⊥
AnswersBytes are (Err (Device n)) = Unit {0}
AnswersBytes are (Err OutOfMemory) = Unit {0}
