-- A call of `vol`.
use Rattle.std.specs.Prelude.{◌≡◌, IfSome, Result, Ok, Err}
use Rattle.os9_outer.specs.Host.{file_contents}
use Rattle.os9_words.specs.Notes.{HasReadFiles, Notes}
use Rattle.os9_words.specs.declared.vol_words.VolWords.{VolWords}
use Rattle.boot_run.specs.World.{World, HasNoFault}
use Rattle.boot_run.specs.Fails.{FailsAsReported}
use Rattle.boot_run.specs.Noted.{NotesNamedFiles}
use Rattle.boot_run.specs.declared.status.End.{End}
use Rattle.os9_boot.specs.VolLeft.{LeavesQuiet, VolLeaves, VolLeavesFiles, VolMayEnd, VolWrites}
use Rattle.os9_boot.specs.Vol.{MakesBy, VolComesTo, vol_file_name, vol_inputs, vol_tool}
use Rattle.os9_boot.specs.declared.made.Made.{Made}

-- it was done, with this end
pub record VolCall (vol : VolWords) (before after : World) (end : End) : Type 0 where
  -- its result, if that can be observed
  pub comes : IfSome before.files (λ files. VolComesTo files vol before after end)
  -- and what holds, observed or not
  pub may : VolMayEnd vol.verb end
  pub devices : VolLeaves vol.verb before after end
  pub host : FailsAsReported (vol_file_name vol) end before after
  pub files : VolLeavesFiles vol before after end

-- the files that it has read and written
abbrev pub NotesVol : VolWords → End → Notes → Notes → Type 0
NotesVol vol end before after = NotesNamedFiles (vol_file_name vol) (vol_inputs vol) (VolWrites vol) end before after

-- ---- before anything is printed or written

-- the verb was done, with this answer and image; the host and the devices are unchanged
pub record MakesQuietly (vol : VolWords) (made : Made) (before after : World) : Type 0 where
  pub makes : IfSome before.files (λ files.
      MakesBy (vol_tool files vol) vol (file_contents files vol.image) made.answer.items made.image.items)
  pub out : after.out ≡ before.out
  pub files : after.files ≡ before.files
  pub no_fault : HasNoFault before after
  pub devices : LeavesQuiet before after

-- the same, or it ended
abbrev pub MakesCall : VolWords → Result Made End → World → World → Type 0
MakesCall vol (Ok made) before after = MakesQuietly vol made before after
MakesCall vol (Err end) before after = VolCall vol before after end

-- all its files were read, or those up to its end
abbrev pub NotesMaking : VolWords → Result Made End → Notes → Notes → Type 0
NotesMaking vol (Ok made) before after = HasReadFiles (vol_inputs vol) before after
NotesMaking vol (Err end) before after = NotesVol vol end before after
