-- New files and directories, as the calls on files have them.
use Rattle.std.proofs.Common.{ℕ, Bool, Option, List, Result, Ok, Err, refl, ◌∙◌}
use Rattle.os9_base.specs.declared.registers.TimePacket.{TimePacket}
use Rattle.rbf_model.specs.File.{DiskFile}
use Rattle.rbf_model.specs.Volume.{DiskVolume}
use Rattle.rbf_change.specs.Faults.{NewFileEnds, before, taken}
use Rattle.rbf_change.specs.NewFiles.{EntersNewFile}
use Rattle.rbf_access.specs.Mounted.{RepresentsVolume}
use Rattle.rbf_access.specs.declared.faults.FileFault.TheVariants.{Device, NoCluster, TooManyRuns}
use Rattle.rbf_walk.specs.declared.error.DirError.{DirError}
use Rattle.rbf_walk.specs.declared.error.DirError.TheVariants.{NotAllowed, BadPath, NotFound, Exists, File}
use Rattle.rbf_entries.specs.Becomes.{RepresentsOne}
use Rattle.rbf_entries.specs.Entering.{Entering, AnswersEntering, IsEnteredOn, EnteringStops, unchanged, took}
use Rattle.rbf_entries.specs.Creating.{request}
use Rattle.rbf_entries.specs.Asked.{folder_request}
use Rattle.file_rules.specs.Change.{Change, AppliesChange, ChangeMayLeave, creates, makes_directory}
use Rattle.file_drives.specs.Left.{LeavesMedia}

module _ (v : DiskVolume) (dir : DiskFile) (e : Entering) (old new : Option (List ℕ)) where
  -- the new file is there
  entered : (n : ℕ) → IsEnteredOn v dir e old new n → RepresentsOne new (λ w. EntersNewFile v w e.directory n e.name (e.plan n))
  entered n it = record { volume = it.after; on = record { image = it.now; is = it.is; vol = it.vol }; changed = it.enters }

  -- or a fault has ended it
  ended : RepresentsVolume old v → EnteringStops v dir e old new → RepresentsOne new (λ w. NewFileEnds v w e.directory e.name e.plan)
  ended on (unchanged same) = record { volume = v; on = record { image = on.image; is = same ∙ on.is; vol = on.vol }; changed = before refl }
  ended on (took it) = record { volume = it.left; on = record { image = it.now; is = it.is; vol = it.vol }; changed = taken it.ends }

  -- for a change of which these are the words
  entry-leaves : (change : Change) (user : ℕ) (now : TimePacket) → ((w : DiskVolume) (n : ℕ) → EntersNewFile v w e.directory n e.name (e.plan n) → AppliesChange change user now v w n)
      → ((w : DiskVolume) → NewFileEnds v w e.directory e.name e.plan → ChangeMayLeave change user now v w)
      → RepresentsVolume old v → (answer : Result ℕ DirError) → AnswersEntering v dir e old new answer
      → LeavesMedia change user now v old new answer
  entry-leaves change user now makes may on (Ok n) it = let one = entered n it in record { volume = one.volume; on = one.on; changed = makes one.volume n one.changed }
  entry-leaves change user now makes may on (Err NotAllowed) it = it.media_kept
  entry-leaves change user now makes may on (Err BadPath) it = it.media_kept
  entry-leaves change user now makes may on (Err NotFound) it = absurd it
  entry-leaves change user now makes may on (Err Exists) it = it.media_kept
  entry-leaves change user now makes may on (Err (File (Device number))) it = let one = ended on it.1 in record { volume = one.volume; on = one.on; changed = may one.volume one.changed }
  entry-leaves change user now makes may on (Err (File NoCluster)) it = it.media_kept
  entry-leaves change user now makes may on (Err (File TooManyRuns)) it = it.media_kept

-- a file
pub creation-leaves : (v : DiskVolume) (dir : DiskFile) (d attributes user : ℕ) (name : List ℕ) (execute : Bool)
    (now : TimePacket) (old new : Option (List ℕ)) (answer : Result ℕ DirError) → RepresentsVolume old v
    → AnswersEntering v dir (request d name attributes user execute now) old new answer → LeavesMedia (creates d name attributes) user now v old new answer
creation-leaves v dir d attributes user name execute now old new answer on it =
    entry-leaves v dir (request d name attributes user execute now) old new (creates d name attributes) user now (λ w n made. made) (λ w left. left) on answer it

-- a directory
pub directory-leaves : (v : DiskVolume) (dir : DiskFile) (d attributes user : ℕ) (name : List ℕ) (now : TimePacket) (old new : Option (List ℕ)) (answer : Result ℕ DirError) → RepresentsVolume old v
    → AnswersEntering v dir (folder_request d name attributes user now) old new answer → LeavesMedia (makes_directory d name attributes) user now v old new answer
directory-leaves v dir d attributes user name now old new answer on it =
    entry-leaves v dir (folder_request d name attributes user now) old new (makes_directory d name attributes) user now (λ w n made. made) (λ w left. left) on answer it
