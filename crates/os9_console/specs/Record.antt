-- The record of a session: two files, over whose texts a boot has its setup (this project's own).
use Rattle.std.specs.Prelude.{◌≡◌, ◌⊎◌, ℕ, suc, Bool, true, false, Some, List, [], ◌∷◌, take}
use Rattle.os9_outer.specs.Host.{IfObserved}
use Rattle.os9_words.specs.declared.command.RunWords.{RunWords}
use Rattle.os9_words.specs.Notes.{HasWritten, Notes}
use Rattle.boot_run.specs.Images.{WritesAll, WritesUpTo}
use Rattle.boot_run.specs.World.{World, FailsToWriteFile, HasNoFault}
use Rattle.boot_run.specs.End.{run_file_name}
use Rattle.boot_run.specs.FileNames.{AreFirstNames}
use Rattle.boot_run.specs.declared.status.End.{End}
use Rattle.boot_run.specs.declared.status.End.TheVariants.{Ended, Living}
use Rattle.boot_run.specs.declared.status.Input.{Input}
use Rattle.boot_run.specs.declared.status.Input.TheVariants.{Script}
use Rattle.os9_boot.specs.BootLeft.{IsBootText}
use Rattle.console_run.specs.declared.typed.Typed.{Typed}
use Rattle.console_run.specs.Texts.{FitsTexts, GiveSession}
use Rattle.os9_console.specs.Words.{record_names}
use Rattle.os9_console.specs.declared.record.Recording.{Recording}
use Rattle.os9_console.specs.declared.record.Recording.TheVariants.{Unasked, Written, TooLong, Unwritten, NoMemory}
use Rattle.os9_console.specs.declared.words.ConsoleWords.{ConsoleWords}

-- a session that ended so is recorded, if the words say so
abbrev pub is_recorded : ConsoleWords → End → Bool
is_recorded words Ended = words.recorded
is_recorded words Living = words.recorded
is_recorded words end = false

-- the place of a text among the files of a record
abbrev pub place_of : Input → ℕ
place_of Script = 0
place_of input = 1

-- the two files were written with texts that give the session, and nothing else
pub record WritesRecord (boot : RunWords) (typed : Typed) (before after : World) : Type 0 where
  pub script : List ℕ
  pub slices : List ℕ
  pub give : GiveSession typed script slices
  pub files : IfObserved (WritesAll (record_names boot) (script ∷ slices ∷ [])) before.files after.files
  pub no_fault : HasNoFault before after

-- such texts were to be written, and those before the one of this number were
pub record WritesPartly (boot : RunWords) (typed : Typed) (number : ℕ) (before after : World) : Type 0 where
  pub script : List ℕ
  pub slices : List ℕ
  pub give : GiveSession typed script slices
  pub files : IfObserved (WritesUpTo number (record_names boot) (script ∷ slices ∷ [])) before.files after.files

-- the host failed, and last at the write of this file of the record
pub record FailsToRecord (boot : RunWords) (typed : Typed) (input : Input) (before after : World) : Type 0 where
  pub text : IsBootText input
  pub name : List ℕ
  pub named : run_file_name boot input ≡ Some name
  pub failed : FailsToWriteFile name before after
  pub partly : WritesPartly boot typed (place_of input) before after

-- What is left of a session that was to be recorded. It is too long if and only if it does not fit in texts.
abbrev pub RecordsSession : RunWords → Typed → Recording → World → World → Type 0
RecordsSession boot typed Unasked before after = ⊥
RecordsSession boot typed Written before after = FitsTexts typed × WritesRecord boot typed before after
RecordsSession boot typed TooLong before after = ¬ FitsTexts typed × (after ≡ before)
RecordsSession boot typed (Unwritten input) before after =
    FitsTexts typed × FailsToRecord boot typed input before after
RecordsSession boot typed NoMemory before after =
    FitsTexts typed × HasNoFault before after
    × ((after.files ≡ before.files) ⊎ ((number : ℕ) × WritesPartly boot typed number before after))

-- A session that ended so was recorded if it was to be, and else nothing was done; the output and the devices are as
-- they were.
pub record RecordsIfAsked (words : ConsoleWords) (typed : Typed) (end : End) (recording : Recording)
    (before after : World)
    : Type 0 where
  pub unasked : is_recorded words end ≡ false → (recording ≡ Unasked) × (after ≡ before)
  pub asked : is_recorded words end ≡ true → RecordsSession words.boot typed recording before after
  pub out : after.out ≡ before.out
  pub devices : after.devices ≡ before.devices

-- the files of the record that were written then, by their names, in order: those up to the one that could not be
-- written, some if memory was out
abbrev pub RecordWrites : RunWords → Recording → List (List ℕ) → Type 0
RecordWrites boot Written names = names ≡ record_names boot
RecordWrites boot (Unwritten input) names = names ≡ take (suc (place_of input)) (record_names boot)
RecordWrites boot NoMemory names = AreFirstNames names (record_names boot)
RecordWrites boot recording names = names ≡ []

-- and they are noted
abbrev pub HasWrittenRecord : RunWords → Recording → Notes → Notes → Type 0
HasWrittenRecord boot recording before after =
    (names : List (List ℕ)) × RecordWrites boot recording names × HasWritten names before after
