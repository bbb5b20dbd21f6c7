-- The answer of the test of an image that does not pass.
use Rattle.std.specs.Prelude.{◌≡◌, ◌⊎◌, ℕ, ◌<◌, ◌≤◌, List}
use Rattle.rbf_model.specs.Disk.{Disk}
use Rattle.rbf_model.specs.Faults.{Breaks, IsFault}
use Rattle.rbf_model.specs.Volume.{DiskVolume, Vol}
use Rattle.rbf_check.specs.declared.faults.CheckError.{CheckError}
use Rattle.rbf_check.specs.declared.faults.CheckError.TheVariants.{Fault, OutOfMemory}

-- the disk keeps each rule before this one
abbrev pub KeepsBefore : Disk → ℕ → Type 0
KeepsBefore disk rule = (other at : ℕ) → other < rule → ¬ Breaks disk other at

-- the least rule that a disk breaks, and the least sector at which it is broken
pub record IsLeastFault (disk : Disk) (rule lsn : ℕ) : Type 0 where
  pub broken : Breaks disk rule lsn
  pub least : (other at : ℕ) → Breaks disk other at → (rule < other) ⊎ ((rule ≡ other) × (lsn ≤ at))

-- such a fault, or out of memory
abbrev pub IsLeastError : Disk → CheckError → Type 0
IsLeastError disk (Fault fault) = IsLeastFault disk fault.rule fault.lsn
IsLeastError disk OutOfMemory = Unit {0}

-- the fault of the image, or out of memory
abbrev pub IsErrorOf : List ℕ → CheckError → Type 0
IsErrorOf image (Fault fault) = IsFault image fault.rule fault.lsn
IsErrorOf image OutOfMemory = Unit {0}

-- the image does not represent a volume, unless out of memory
abbrev pub RepresentsNone : List ℕ → CheckError → Type 0
RepresentsNone image (Fault fault) = (v : DiskVolume) → ¬ Vol image v
RepresentsNone image OutOfMemory = Unit {0}
