-- The answers of the tools, and what they leave.
use Rattle.std.specs.Prelude.{◌≡◌, ℕ, Option, Some, None, List, Result, Ok, Err}
use Rattle.rbf_model.specs.Volume.{DiskVolume}
use Rattle.rbf_model.specs.Walk.{WalkEnd, arrives}
use Rattle.rbf_access.specs.Mounted.{RepresentsVolume}
use Rattle.vol_tools.specs.Numbers.{on_arrival}
use Rattle.vol_tools.specs.Refusals.{ToolMayLeave, RefusesTool, refused_number}
use Rattle.vol_tools.specs.Tool.{Gives}
use Rattle.vol_tools.specs.UsesInTurn.{Use}
use Rattle.vol_tools.specs.declared.fault.ToolFault.{ToolFault}
use Rattle.vol_tools.specs.declared.fault.ToolFault.TheVariants.{Number, Device, OutOfMemory}

-- the media represents the volume that the tool gives, and this is its answer
pub record GivesOn (use_ : Use) (v : DiskVolume) (answer : List ℕ) (new : Option (List ℕ)) : Type 0 where
  pub volume : DiskVolume
  pub on : RepresentsVolume new volume
  pub gives : Gives use_.tool use_.now v volume answer

-- the tool is refused with this number; if at once, the media is unchanged
pub record RefusesOn (use_ : Use) (v : DiskVolume) (number : ℕ) (old new : Option (List ℕ)) : Type 0 where
  pub volume : DiskVolume
  pub on : RepresentsVolume new volume
  pub refuses : RefusesTool use_.tool use_.now v volume number
  pub kept : refused_number v use_.tool ≡ Some number → new ≡ old

-- a fault of the drive has ended the tool
pub record LeavesOn (use_ : Use) (v : DiskVolume) (new : Option (List ℕ)) : Type 0 where
  pub volume : DiskVolume
  pub on : RepresentsVolume new volume
  pub may : ToolMayLeave use_.tool use_.now v volume

-- each answer of a tool with its cause and what it leaves; `bytes` are the bytes of an answer
abbrev pub AnswersTool : {A : Type 0} → Use → (A → List ℕ) → DiskVolume → Option (List ℕ) → Option (List ℕ)
    → Result A ToolFault → Type 0
AnswersTool use_ bytes v old new (Ok a) = GivesOn use_ v (bytes a) new
AnswersTool use_ bytes v old new (Err (Number n)) = RefusesOn use_ v n old new
AnswersTool use_ bytes v old new (Err (Device n)) = LeavesOn use_ v new
AnswersTool use_ bytes v old new (Err OutOfMemory) = new ≡ old

-- the same on the volume that the media represented before
abbrev pub OnVolumeBefore : {A : Type 0} → Use → (A → List ℕ) → Option (List ℕ) → Option (List ℕ)
    → Result A ToolFault → Type 0
OnVolumeBefore use_ bytes old new result =
    (v : DiskVolume) → RepresentsVolume old v → AnswersTool use_ bytes v old new result

-- the answer of a walk from the root with this end, if no fault of the drive ended it before
abbrev pub AnswersWay : WalkEnd → Result ℕ ToolFault → Type 0
AnswersWay end (Ok n) = end ≡ arrives n
AnswersWay end (Err (Number n)) = on_arrival end (λ _. None) ≡ Some n
AnswersWay end (Err (Device n)) = Unit {0}
AnswersWay end (Err OutOfMemory) = ⊥
