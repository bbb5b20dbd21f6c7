-- The possible ends of `vol`, and what it leaves (this project's own).
use Rattle.std.specs.Prelude.{◌≡◌, ℕ, ⊤, List, []}
use Rattle.os9_outer.specs.Host.{IfObserved}
use Rattle.os9_words.specs.Notes.{HasWritten, Notes}
use Rattle.os9_words.specs.declared.vol_words.Verb.{Verb}
use Rattle.os9_words.specs.declared.vol_words.Verb.TheVariants.{Format, Put, Get, Dir, Repair}
use Rattle.os9_words.specs.declared.vol_words.VolWords.{VolWords}
use Rattle.boot_run.specs.Machine.{FailsToMount}
use Rattle.boot_run.specs.World.{World}
use Rattle.file_drives.specs.Drives.{drive_states, media_of}
use Rattle.file_rules.specs.Files.{KeepsDriveFaults}
use Rattle.boot_run.specs.FileNames.{AreFirstNames}
use Rattle.boot_run.specs.Left.{ChangesOnly, IsSilent}
use Rattle.boot_run.specs.declared.status.End.{End}
use Rattle.boot_run.specs.declared.status.End.TheVariants.{Ended, CannotRead, CannotWrite, CannotWriteImage, CannotWriteFile, NoMemory, BadImage, DriveFailed, Refused}
use Rattle.boot_run.specs.declared.status.Input.{Input}
use Rattle.boot_run.specs.declared.status.Input.TheVariants.{File, Image}
use Rattle.os9_boot.specs.Vol.{vol_outputs}

-- ---- its possible ends

-- only FILE of `get` is written, and `dir` and `get` do not write an image
abbrev pub WritesImage : Verb → Type 0
WritesImage Get = ⊥
WritesImage Dir = ⊥
WritesImage verb = ⊤

-- it reads the image, except for `format`, and FILE of `put`
abbrev pub ReadsInput : Verb → Input → Type 0
ReadsInput Format input = ⊥
ReadsInput verb (Image number) = number ≡ 0
ReadsInput verb File = verb ≡ Put
ReadsInput verb input = ⊥

-- it prints lines
abbrev pub PrintsLines : Verb → Type 0
PrintsLines Dir = ⊤
PrintsLines Repair = ⊤
PrintsLines verb = ⊥

-- its tool is used on the image in D0
abbrev pub MountsImage : Verb → Type 0
MountsImage Format = ⊥
MountsImage Repair = ⊥
MountsImage verb = ⊤

-- the drive of the image is D0
pub record MayFail (verb : Verb) (drive : ℕ) : Type 0 where
  pub first : drive ≡ 0
  pub mounts : MountsImage verb

abbrev pub VolMayEnd : Verb → End → Type 0
VolMayEnd verb Ended = ⊤
VolMayEnd verb (CannotRead input) = ReadsInput verb input
VolMayEnd verb CannotWrite = PrintsLines verb
VolMayEnd verb (CannotWriteImage number) = (number ≡ 0) × WritesImage verb
VolMayEnd verb CannotWriteFile = verb ≡ Get
VolMayEnd verb NoMemory = ⊤
VolMayEnd verb (BadImage number fault) = ReadsInput verb (Image number)
VolMayEnd verb (DriveFailed drive number) = MayFail verb drive
VolMayEnd verb (Refused number) = MountsImage verb
VolMayEnd verb end = ⊥

-- ---- what it leaves

-- the terminals and the media are unchanged, and no drive has failed
pub record LeavesQuiet (before after : World) : Type 0 where
  pub terminals : after.devices.terms ≡ before.devices.terms
  pub none_failed : KeepsDriveFaults (drive_states before.devices.drives) (drive_states after.devices.drives)
  pub media_kept : media_of after.devices.drives ≡ media_of before.devices.drives

-- and the output is unchanged, if the verb prints no lines
pub record LeavesMade (verb : Verb) (before after : World) : Type 0 where
  pub quiet : LeavesQuiet before after
  pub out : ¬ PrintsLines verb → after.out ≡ before.out

-- and the output is unchanged
pub record LeavesUnprinted (before after : World) : Type 0 where
  pub out : after.out ≡ before.out
  pub quiet : LeavesQuiet before after

-- for the output and the devices, observed or not
abbrev pub VolLeaves : Verb → World → World → End → Type 0
VolLeaves verb before after (DriveFailed drive number) = FailsToMount 1 drive number before after
VolLeaves verb before after (Refused number) = LeavesUnprinted before after
VolLeaves verb before after (CannotRead input) = IsSilent before after
VolLeaves verb before after (BadImage number fault) = IsSilent before after
VolLeaves verb before after end = LeavesMade verb before after

-- for the files: it writes one only after all that it prints
abbrev pub VolLeavesFiles : VolWords → World → World → End → Type 0
VolLeavesFiles vol before after Ended = IfObserved (ChangesOnly (vol_outputs vol)) before.files after.files
VolLeavesFiles vol before after (CannotWriteImage number) =
    IfObserved (ChangesOnly (vol_outputs vol)) before.files after.files
VolLeavesFiles vol before after CannotWriteFile =
    IfObserved (ChangesOnly (vol_outputs vol)) before.files after.files
VolLeavesFiles vol before after NoMemory = IfObserved (ChangesOnly (vol_outputs vol)) before.files after.files
VolLeavesFiles vol before after end = after.files ≡ before.files

-- the files that it has written: its one file if it is done or that could not be written; that one or none if out of
-- memory; otherwise none
abbrev pub VolWrites : VolWords → End → List (List ℕ) → Type 0
VolWrites vol Ended written = written ≡ vol_outputs vol
VolWrites vol (CannotWriteImage number) written = written ≡ vol_outputs vol
VolWrites vol CannotWriteFile written = written ≡ vol_outputs vol
VolWrites vol NoMemory written = AreFirstNames written (vol_outputs vol)
VolWrites vol end written = written ≡ []

-- the same in the host's notes
pub record NotesOutputs (vol : VolWords) (end : End) (before after : Notes) : Type 0 where
  pub written : List (List ℕ)
  pub writes : VolWrites vol end written
  pub noted : HasWritten written before after
