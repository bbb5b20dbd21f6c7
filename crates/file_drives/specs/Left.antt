-- What a call that changes a volume leaves on the media, in the words of the calls on files (System Programmer's
-- Manual, I$Create, I$MakDir and I$Delete).
use Rattle.std.specs.Prelude.{◌≡◌, ℕ, Option, List, Result, Ok, Err}
use Rattle.os9_base.specs.declared.registers.TimePacket.{TimePacket}
use Rattle.rbf_model.specs.Volume.{DiskVolume}
use Rattle.rbf_access.specs.declared.faults.FileFault.{FileFault}
use Rattle.rbf_access.specs.declared.faults.FileFault.TheVariants.{Device, NoCluster, TooManyRuns}
use Rattle.rbf_walk.specs.declared.error.DirError.{DirError}
use Rattle.rbf_walk.specs.declared.error.DirError.TheVariants.{NotAllowed, BadPath, NotFound, Exists, File}
use Rattle.rbf_entries.specs.Becomes.{RepresentsOne}
use Rattle.file_rules.specs.Change.{Change, AppliesChange, ChangeMayLeave}

-- by its answer, if the old media represented the volume v: on success the changed volume, with a new file of the
-- answered number; after a fault of the drive what that may leave; and after a refusal the old media
abbrev pub LeavesMedia : Change → ℕ → TimePacket → DiskVolume → Option (List ℕ) → Option (List ℕ)
    → Result ℕ DirError → Type 0
LeavesMedia change user now v old new (Ok n) = RepresentsOne new (λ w. AppliesChange change user now v w n)
LeavesMedia change user now v old new (Err NotAllowed) = new ≡ old
LeavesMedia change user now v old new (Err BadPath) = new ≡ old
LeavesMedia change user now v old new (Err NotFound) = new ≡ old
LeavesMedia change user now v old new (Err Exists) = new ≡ old
LeavesMedia change user now v old new (Err (File (Device number))) = RepresentsOne new
    (λ w. ChangeMayLeave change user now v w)
LeavesMedia change user now v old new (Err (File NoCluster)) = new ≡ old
LeavesMedia change user now v old new (Err (File TooManyRuns)) = new ≡ old

-- the answer of a call that makes no file, and so has no number: it is 0, which no such change asks for
abbrev pub numbered : Result (Unit {0}) FileFault → Result ℕ FileFault
numbered (Ok done) = Ok 0
numbered (Err fault) = Err fault
