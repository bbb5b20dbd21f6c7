-- A call of `debug`.
use Rattle.std.specs.Prelude.{IfSome}
use Rattle.os9_words.specs.Notes.{Notes}
use Rattle.os9_words.specs.declared.debug_words.DebugWords.{DebugWords}
use Rattle.boot_run.specs.World.{World}
use Rattle.boot_run.specs.Fails.{FailsAsReported}
use Rattle.boot_run.specs.Noted.{NotesNamedFiles}
use Rattle.boot_run.specs.declared.status.End.{End}
use Rattle.os9_debug.specs.Debug.{DebugComesTo, debug_file_name, debug_inputs}
use Rattle.os9_debug.specs.Left.{DebugLeaves, DebugLeavesFiles, DebugMayEnd, DebugWrites}

-- it was done, with this end
pub record DebugCall (debug : DebugWords) (before after : World) (end : End) : Type 0 where
  -- its outcome, if that can be observed
  pub comes : IfSome before.files (λ files. DebugComesTo files debug before after end)
  -- and what holds, observed or not
  pub may : DebugMayEnd end
  pub devices : DebugLeaves before after end
  pub host : FailsAsReported (debug_file_name debug) end before after
  pub files : DebugLeavesFiles before after end

-- the files that it has read and written
abbrev pub NotesDebug : DebugWords → End → Notes → Notes → Type 0
NotesDebug debug end before after = NotesNamedFiles (debug_file_name debug) (debug_inputs debug) DebugWrites end before
    after
