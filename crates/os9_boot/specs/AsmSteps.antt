-- The steps of `asm` after the read: the source is assembled, and the module is written.
use Rattle.std.specs.Prelude.{◌≡◌, ℕ, ⊤, Err, List}
use Rattle.os9_words.specs.Notes.{HasWritten, Notes}
use Rattle.os9_words.specs.declared.asm_words.AsmWords.{AsmWords}
use Rattle.boot_run.specs.World.{World, FailsToWriteFile, HasNoFault}
use Rattle.asm_model.specs.Placement.{fault_on}
use Rattle.asm6809.specs.Assembled.{outcome_of}
use Rattle.boot_run.specs.Left.{IsSilent}
use Rattle.boot_run.specs.declared.status.End.{End}
use Rattle.boot_run.specs.declared.status.End.TheVariants.{Ended, CannotWriteFile, NoMemory, BadSource}
use Rattle.os9_boot.specs.Asm.{HasModule, HasOutputPart}
use Rattle.os9_boot.specs.AsmLeft.{AsmWrites}

-- the source was refused, with its first bad line; or memory was out
abbrev pub RefusesSource : List ℕ → End → Type 0
RefusesSource source (BadSource line error) = outcome_of source ≡ Err (fault_on line error)
RefusesSource source NoMemory = ⊤
RefusesSource source end = ⊥

-- how the write of OUT ended
abbrev pub AsmWriteEnds : AsmWords → List ℕ → World → World → End → Type 0
AsmWriteEnds asm bytes before after Ended = HasNoFault before after × HasModule asm before after bytes
AsmWriteEnds asm bytes before after CannotWriteFile =
    FailsToWriteFile asm.out before after × HasOutputPart asm before after bytes
AsmWriteEnds asm bytes before after NoMemory = HasNoFault before after × HasOutputPart asm before after bytes
AsmWriteEnds asm bytes before after end = ⊥

-- OUT was written, whole or in part; the output and the devices are unchanged
pub record WritesAsmOut (asm : AsmWords) (bytes : List ℕ) (end : End) (before after : World) : Type 0 where
  pub ends : AsmWriteEnds asm bytes before after end
  pub silent : IsSilent before after

-- as the host notes it
pub record NotesOut (asm : AsmWords) (end : End) (before after : Notes) : Type 0 where
  pub written : List (List ℕ)
  pub writes : AsmWrites asm end written
  pub noted : HasWritten written before after
