-- Deletions, as the calls on files have them.
use Rattle.std.proofs.Common.{ℕ, Option, List, Result, Ok, Err, inl, inr, refl, ◌∙◌}
use Rattle.os9_base.specs.declared.registers.TimePacket.{TimePacket}
use Rattle.rbf_model.specs.Volume.{DiskVolume}
use Rattle.rbf_change.specs.Faults.{before, gone}
use Rattle.rbf_access.specs.Mounted.{RepresentsVolume}
use Rattle.rbf_access.specs.declared.faults.FileFault.{FileFault}
use Rattle.rbf_access.specs.declared.faults.FileFault.TheVariants.{Device, NoCluster, TooManyRuns}
use Rattle.rbf_entries.specs.Entering.{widened}
use Rattle.rbf_entries.specs.Deleted.{AnswersDeletionOf}
use Rattle.file_rules.specs.Change.{deletes}
use Rattle.file_drives.specs.Left.{LeavesMedia, numbered}

pub deletion-leaves : (v : DiskVolume) (d n user : ℕ) (name : List ℕ) (now : TimePacket) (old new : Option (List ℕ)) (answer : Result (Unit {0}) FileFault) → RepresentsVolume old v
    → AnswersDeletionOf v d n name old new answer → LeavesMedia (deletes d n name) user now v old new (widened (numbered answer))
deletion-leaves v d n user name now old new (Ok done) on it = record { volume = it.after; on = record { image = it.now; is = it.is; vol = it.vol }; changed = it.deletes }
deletion-leaves v d n user name now old new (Err (Device number)) on (inl same) =
    record { volume = v; on = record { image = on.image; is = same ∙ on.is; vol = on.vol }; changed = (on.image, on.vol, before refl) }
deletion-leaves v d n user name now old new (Err (Device number)) on (inr half) =
    record { volume = half.left; on = record { image = half.now; is = half.is; vol = half.vol }; changed = (half.now, half.vol, gone half.deletes half.there half.lose half.unfinished) }
deletion-leaves v d n user name now old new (Err NoCluster) on it = absurd it
deletion-leaves v d n user name now old new (Err TooManyRuns) on it = absurd it
