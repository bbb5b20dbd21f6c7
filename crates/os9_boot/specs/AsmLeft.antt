-- How `asm` may end, and what it leaves (this project's own).
use Rattle.std.specs.Prelude.{◌≡◌, ℕ, ⊤, List, []}
use Rattle.os9_outer.specs.Host.{IfObserved}
use Rattle.os9_words.specs.declared.asm_words.AsmWords.{AsmWords}
use Rattle.boot_run.specs.World.{World}
use Rattle.boot_run.specs.FileNames.{AreFirstNames}
use Rattle.boot_run.specs.Left.{ChangesOnly, IsSilent}
use Rattle.boot_run.specs.declared.status.End.{End}
use Rattle.boot_run.specs.declared.status.End.TheVariants.{Ended, CannotRead, CannotWriteFile, NoMemory, BadSource}
use Rattle.boot_run.specs.declared.status.Input.TheVariants.{Source}
use Rattle.os9_boot.specs.Asm.{asm_outputs}

-- ---- how it may end

-- it reads only SOURCE
abbrev pub AsmMayEnd : End → Type 0
AsmMayEnd Ended = ⊤
AsmMayEnd (CannotRead input) = input ≡ Source
AsmMayEnd CannotWriteFile = ⊤
AsmMayEnd NoMemory = ⊤
AsmMayEnd (BadSource line error) = ⊤
AsmMayEnd end = ⊥

-- ---- what it leaves

-- the output and the devices are unchanged, whatever its end
abbrev pub AsmLeaves : World → World → End → Type 0
AsmLeaves before after end = IsSilent before after

-- of the files: it writes one only after a source was accepted
abbrev pub AsmLeavesFiles : AsmWords → World → World → End → Type 0
AsmLeavesFiles asm before after Ended = IfObserved (ChangesOnly (asm_outputs asm)) before.files after.files
AsmLeavesFiles asm before after CannotWriteFile = IfObserved (ChangesOnly (asm_outputs asm)) before.files after.files
AsmLeavesFiles asm before after NoMemory = IfObserved (ChangesOnly (asm_outputs asm)) before.files after.files
AsmLeavesFiles asm before after end = after.files ≡ before.files

-- the files that it has written: OUT if it is done or OUT could not be written, OUT or none if memory was out, and else
-- none
abbrev pub AsmWrites : AsmWords → End → List (List ℕ) → Type 0
AsmWrites asm Ended written = written ≡ asm_outputs asm
AsmWrites asm CannotWriteFile written = written ≡ asm_outputs asm
AsmWrites asm NoMemory written = AreFirstNames written (asm_outputs asm)
AsmWrites asm end written = written ≡ []
