-- A directory that is made by its path.
use Rattle.std.proofs.Common.{◌≡◌, ◌⊎◌, ℕ, Option, Some, None, List, [], Result, Err, refl, inl, inr}
use Rattle.os9_base.specs.declared.registers.TimePacket.{TimePacket}
use Rattle.os9_base.specs.declared.errors.TheConstants.{E_BPNAM}
use Rattle.rbf_model.specs.Volume.{DiskVolume}
use Rattle.rbf_change.specs.NewFiles.{directory_plan}
use Rattle.rbf_access.specs.Mounted.{RepresentsVolume}
use Rattle.vol_tools.specs.Numbers.{make_dir_number}
use Rattle.vol_tools.specs.Refusals.{MakingStops, ToolMayLeave, halfway, unchanged}
use Rattle.vol_tools.specs.Tool.{mkdir, directory_attributes}
use Rattle.vol_tools.specs.UsesInTurn.{Use}
use Rattle.vol_tools.specs.Answers.{AnswersTool, GivesOn}
use Rattle.vol_tools.specs.Making.{AnswersMaking, MadeOn, new_directory}
use Rattle.vol_tools.specs.declared.fault.ToolFault.{ToolFault}
use Rattle.vol_tools.specs.declared.fault.ToolFault.TheVariants.{Number, Device, OutOfMemory}
use Rattle.vol_tools.proofs.Ways.{still}

module _ (path : List ℕ) (now : TimePacket) (v : DiskVolume) where
  abbrev use_ : Use
  use_ = record { tool = mkdir path; now = now }

  -- the path names no place for a new directory
  pub no_folder : (old : Option (List ℕ)) → RepresentsVolume old v → make_dir_number v path ≡ Some E_BPNAM → AnswersTool {A = Unit {0}} use_ (λ _. []) v old old (Err (Number E_BPNAM))
  no_folder old on h = record { volume = v; on = on; refuses = inl (h, refl); kept = λ _. refl }

  by_ends : (w : DiskVolume) → (w ≡ v) ⊎ ((make_dir_number v path ≡ None) × MakingStops v w path (directory_plan directory_attributes 0 now)) → ToolMayLeave (mkdir path) now v w
  by_ends w (inl same) = unchanged same
  by_ends w (inr half) = halfway half.0 half.1

  -- it was not made
  pub not_founded : (old new : Option (List ℕ)) (fault : ToolFault) → RepresentsVolume old v → AnswersMaking (new_directory now) path v old new (Err fault)
      → AnswersTool {A = Unit {0}} use_ (λ _. []) v old new (Err fault)
  not_founded old new (Number n) on h = record { volume = v; on = still old new v h.1 on; refuses = inl (h.0, refl); kept = λ _. h.1 }
  not_founded old new (Device n) on h = record { volume = h.volume; on = h.on; may = by_ends h.volume h.ends }
  not_founded old new OutOfMemory on h = absurd h

  pub founded : (new : Option (List ℕ)) (n : ℕ) → MadeOn (new_directory now) path v n new → GivesOn use_ v [] new
  founded new n made = record {
    volume = made.volume;
    on = made.on;
    gives = (record { allowed = made.allowed; directory = made.directory; name = made.name; number = n; leads = made.leads; makes = made.enters }, refl);
  }
