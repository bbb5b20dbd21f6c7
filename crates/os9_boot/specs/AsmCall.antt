-- A call of `asm`.
use Rattle.std.specs.Prelude.{IfSome}
use Rattle.os9_words.specs.Notes.{Notes}
use Rattle.os9_words.specs.declared.asm_words.AsmWords.{AsmWords}
use Rattle.boot_run.specs.World.{World}
use Rattle.boot_run.specs.Fails.{FailsAsReported}
use Rattle.boot_run.specs.Noted.{NotesNamedFiles}
use Rattle.boot_run.specs.declared.status.End.{End}
use Rattle.os9_boot.specs.Asm.{AsmComesTo, asm_file_name, asm_inputs}
use Rattle.os9_boot.specs.AsmLeft.{AsmLeaves, AsmLeavesFiles, AsmMayEnd, AsmWrites}

-- it was done, with this end
pub record AsmCall (asm : AsmWords) (before after : World) (end : End) : Type 0 where
  -- its outcome, if that can be observed
  pub comes : IfSome before.files (λ files. AsmComesTo files asm before after end)
  -- and what holds, observed or not
  pub may : AsmMayEnd end
  pub devices : AsmLeaves before after end
  pub host : FailsAsReported (asm_file_name asm) end before after
  pub files : AsmLeavesFiles asm before after end

-- the files that it has read and written
abbrev pub NotesAsm : AsmWords → End → Notes → Notes → Type 0
NotesAsm asm end before after = NotesNamedFiles (asm_file_name asm) (asm_inputs asm) (AsmWrites asm) end before after
