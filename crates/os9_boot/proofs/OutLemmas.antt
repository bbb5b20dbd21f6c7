-- What the write of OUT leaves.
use Rattle.std.proofs.Common.{◌⊎◌, ℕ, Ok, Err, List, [], ◌∷◌, refl, inl, inr}
use Rattle.os9_outer.specs.declared.host.HostFault.TheVariants.{Failed, OutOfMemory}
use Rattle.os9_words.specs.Notes.{HasWritten, Notes}
use Rattle.os9_words.specs.declared.asm_words.AsmWords.{AsmWords}
use Rattle.boot_run.specs.World.{World}
use Rattle.boot_run.specs.Output.{WritesOutput}
use Rattle.boot_run.specs.declared.status.End.TheVariants.{Ended, CannotWriteFile, NoMemory}
use Rattle.os9_boot.specs.Asm.{asm_outputs}
use Rattle.os9_boot.specs.AsmSteps.{NotesOut, WritesAsmOut}

module _ (asm : AsmWords) (bytes : List ℕ) (before after : World) where
  pub wrote-whole : (value : Unit {0}) → WritesOutput {Value = Unit {0}} asm.out bytes (Ok value) before after → WritesAsmOut asm bytes Ended before after
  wrote-whole value wrote = record {
    ends = (wrote.no_fault, wrote.written);
    silent = record { out = wrote.out; devices = wrote.devices };
  }

  pub wrote-failed : WritesOutput {Value = Unit {0}} asm.out bytes (Err Failed) before after → WritesAsmOut asm bytes CannotWriteFile before after
  wrote-failed wrote = record {
    ends = (wrote.failed, wrote.part);
    silent = record { out = wrote.out; devices = wrote.devices };
  }

  pub wrote-wanting : WritesOutput {Value = Unit {0}} asm.out bytes (Err OutOfMemory) before after → WritesAsmOut asm bytes NoMemory before after
  wrote-wanting wrote = record {
    ends = (wrote.no_fault, wrote.part);
    silent = record { out = wrote.out; devices = wrote.devices };
  }

module _ (asm : AsmWords) (before after : Notes) where
  pub noted-whole : HasWritten (asm.out ∷ []) before after → NotesOut asm Ended before after
  noted-whole noted = record { written = asm.out ∷ []; writes = refl; noted = noted }

  pub noted-failed : HasWritten (asm.out ∷ []) before after → NotesOut asm CannotWriteFile before after
  noted-failed noted = record { written = asm.out ∷ []; writes = refl; noted = noted }

  pub noted-wanting : HasWritten [] before after ⊎ HasWritten (asm.out ∷ []) before after → NotesOut asm NoMemory before after
  noted-wanting (inl noted) = record { written = []; writes = (asm_outputs asm, refl); noted = noted }
  noted-wanting (inr noted) = record { written = asm.out ∷ []; writes = ([], refl); noted = noted }
