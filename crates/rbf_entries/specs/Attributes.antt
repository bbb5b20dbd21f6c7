-- New attributes for a file.
use Rattle.std.specs.Prelude.{◌≡◌, ℕ, true, false, Option, List, [], ◌∷◌, Result, Ok, Err, if◌then◌else◌, slice_index}
use Rattle.os9_outer.specs.Drive.{sector_at, with_sector}
use Rattle.os9_base.specs.declared.registers.TimePacket.{TimePacket}
use Rattle.rbf_model.specs.File.{DiskFile}
use Rattle.rbf_model.specs.Writes.{put_at}
use Rattle.rbf_change.specs.Calls.{changed_attributes, minute_of}
use Rattle.rbf_change.specs.NewFiles.{owns_file}
use Rattle.rbf_access.specs.declared.faults.FileFault.TheVariants.{Device, NoCluster, TooManyRuns}
use Rattle.rbf_walk.specs.declared.error.DirError.{DirError}
use Rattle.rbf_walk.specs.declared.error.DirError.TheVariants.{NotAllowed, BadPath, NotFound, Exists, File}

-- a descriptor with new attributes and the time of that change: all other bytes are unchanged
abbrev pub attributed : List ℕ → ℕ → TimePacket → List ℕ
attributed descriptor attributes now =
    put_at (put_at descriptor 0 (changed_attributes (slice_index descriptor 0) attributes ∷ [])) 3 (minute_of now)

-- the media with that descriptor for file n
abbrev pub with_new_attributes : Option (List ℕ) → ℕ → ℕ → TimePacket → Option (List ℕ)
with_new_attributes media n attributes now =
    with_sector media n (attributed (sector_at media n) attributes now)

-- the answer to a user who changes a file's attributes, if no fault of the drive ended the call before
abbrev pub AnswersOwner : {A : Type 0} → DiskFile → ℕ → Result A DirError → Type 0
AnswersOwner file user (Ok a) = owns_file file user ≡ true
AnswersOwner file user (Err NotAllowed) = owns_file file user ≡ false
AnswersOwner file user (Err BadPath) = ⊥
AnswersOwner file user (Err NotFound) = ⊥
AnswersOwner file user (Err Exists) = ⊥
AnswersOwner file user (Err (File (Device n))) = Unit
AnswersOwner file user (Err (File NoCluster)) = ⊥
AnswersOwner file user (Err (File TooManyRuns)) = ⊥

-- the greatest number of drive calls of such a change: a read of the descriptor, and for its owner a write of it
abbrev pub attribute_calls : DiskFile → ℕ → ℕ
attribute_calls file user = if owns_file file user then 2 else 1
