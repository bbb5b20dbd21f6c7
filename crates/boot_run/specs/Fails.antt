-- How the host failed in a command (this project's own).
use Rattle.std.specs.Prelude.{◌≡◌, ℕ, Option, Some, List}
use Rattle.boot_run.specs.World.{World, FailsToReadFile, FailsToWrite, FailsToWriteFile, HasNoFault}
use Rattle.boot_run.specs.declared.status.End.{End}
use Rattle.boot_run.specs.declared.status.End.TheVariants.{CannotRead, CannotWrite, CannotWriteImage, CannotWriteFile}
use Rattle.boot_run.specs.declared.status.Input.{Input}
use Rattle.boot_run.specs.declared.status.Input.TheVariants.{File, Image}

-- the host failed, and last at the read of this file, named by the words
abbrev pub FailsToReadInput : (Input → Option (List ℕ)) → Input → World → World → Type 0
FailsToReadInput name_of input before after =
    (name : List ℕ) × (name_of input ≡ Some name) × FailsToReadFile name before after

-- the host failed, and last at the write of this file
abbrev pub FailsToWriteInput : (Input → Option (List ℕ)) → Input → World → World → Type 0
FailsToWriteInput name_of input before after =
    (name : List ℕ) × (name_of input ≡ Some name) × FailsToWriteFile name before after

-- the host failed as the end of the command says, whose words give its files these names; at every other end it did not
-- fail
abbrev pub FailsAsReported : (Input → Option (List ℕ)) → End → World → World → Type 0
FailsAsReported name_of (CannotRead input) before after = FailsToReadInput name_of input before after
FailsAsReported name_of CannotWrite before after = FailsToWrite before after
FailsAsReported name_of (CannotWriteImage number) before after = FailsToWriteInput name_of (Image number) before after
FailsAsReported name_of CannotWriteFile before after = FailsToWriteInput name_of File before after
FailsAsReported name_of end before after = HasNoFault before after
