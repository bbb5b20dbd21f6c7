-- Reads of files that end a command (this project's own).
use Rattle.std.specs.Prelude.{◌≡◌, ℕ, Option, Some, List, Result, Ok, Err}
use Rattle.os9_words.specs.Notes.{HasReadFiles, Notes}
use Rattle.boot_run.specs.World.{World, FailsToReadFile}
use Rattle.boot_run.specs.FileNames.{AreFirstNames, IsUpTo}
use Rattle.boot_run.specs.declared.status.Input.{Input}
use Rattle.boot_run.specs.declared.status.End.{End}
use Rattle.boot_run.specs.declared.status.End.TheVariants.{CannotRead, NoMemory}

-- ---- what is left

-- the file of this name could not be read: the host failed, and last there; nothing else has changed
pub record CouldNotRead (name : List ℕ) (before after : World) : Type 0 where
  pub failed : FailsToReadFile name before after
  pub files : after.files ≡ before.files
  pub out : after.out ≡ before.out
  pub devices : after.devices ≡ before.devices

-- the file of this input could not be read; or memory was out, and nothing has changed
abbrev pub StopsAtRead : (Input → Option (List ℕ)) → World → World → End → Type 0
StopsAtRead name_of before after (CannotRead input) =
    (name : List ℕ) × (name_of input ≡ Some name) × CouldNotRead name before after
StopsAtRead name_of before after NoMemory = after ≡ before
StopsAtRead name_of before after end = ⊥

-- ---- which files were read

-- the reads of files of these names stopped: the file of this input could not be read, or memory was out
abbrev pub StopsReads : (Input → Option (List ℕ)) → List (List ℕ) → End → List (List ℕ) → Type 0
StopsReads name_of names (CannotRead input) read =
    (name : List ℕ) × (name_of input ≡ Some name) × IsUpTo name read names
StopsReads name_of names NoMemory read = AreFirstNames read names
StopsReads name_of names end read = ⊥

-- the files that were read before the reads stopped
pub record NotesStop (name_of : Input → Option (List ℕ)) (names : List (List ℕ)) (end : End) (before after : Notes)
    : Type 0 where
  pub read : List (List ℕ)
  pub stops : StopsReads name_of names end read
  pub noted : HasReadFiles read before after

-- files of these names were read, each once and in this order; or only those before the reads stopped
abbrev pub NotesReads : {A : Type 0} → (Input → Option (List ℕ)) → List (List ℕ) → Result A End → Notes → Notes
    → Type 0
NotesReads name_of names (Ok read) before after = HasReadFiles names before after
NotesReads name_of names (Err end) before after = NotesStop name_of names end before after
