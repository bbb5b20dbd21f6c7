-- The names of the files that a command writes (this project's own).
use Rattle.std.specs.Prelude.{◌≡◌, ℕ, suc, List, [], take}
use Rattle.boot_run.specs.FileNames.{AreFirstNames}
use Rattle.boot_run.specs.declared.status.End.{End}
use Rattle.boot_run.specs.declared.status.End.TheVariants.{Ended, Living, CannotWriteFile, CannotWriteImage, NoMemory}
use Rattle.os9_boot.specs.History.{Outputs, output_names}

-- a boot with this end has written these of its images and its history: all after a run to its end, up to the file that
-- could not be written, some if memory was out, and else none
abbrev pub BootWrites : Outputs → End → List (List ℕ) → Type 0
BootWrites outputs Ended written = written ≡ output_names outputs
BootWrites outputs Living written = written ≡ output_names outputs
BootWrites outputs (CannotWriteImage number) written = written ≡ take (suc number) outputs.images
BootWrites outputs CannotWriteFile written = written ≡ output_names outputs
BootWrites outputs NoMemory written = AreFirstNames written (output_names outputs)
BootWrites outputs end written = written ≡ []

-- no file was written
abbrev pub WritesNone : End → List (List ℕ) → Type 0
WritesNone end written = written ≡ []
