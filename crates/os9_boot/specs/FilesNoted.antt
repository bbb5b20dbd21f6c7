-- Which files a command has read and written, as its host notes them (this project's own).
use Rattle.std.specs.Prelude.{ℕ, ◌⊎◌, List, [], ◌∷◌, Result, Ok, Err}
use Rattle.os9_words.specs.declared.command.Command.{Command}
use Rattle.os9_words.specs.Notes.{HasWritten, Notes}
use Rattle.boot_run.specs.Noted.{NotesNamedFiles as NotesNamed, ReadsInputs as ReadsNamed}
use Rattle.boot_run.specs.declared.status.End.{End}
use Rattle.boot_run.specs.declared.status.End.TheVariants.{NoMemory}
use Rattle.os9_boot.specs.FileNames.{BootWrites}
use Rattle.os9_boot.specs.History.{Outputs}
use Rattle.os9_boot.specs.Meaning.{meaning}

-- the files that a command with this end has read
abbrev pub ReadsCommandFiles : Command → End → List (List ℕ) → Type 0
ReadsCommandFiles command end read = ReadsNamed (meaning command).file_name (meaning command).inputs end read

-- the files that a boot has written
pub record NotesBack (outputs : Outputs) (end : End) (before after : Notes) : Type 0 where
  pub written : List (List ℕ)
  pub writes : BootWrites outputs end written
  pub noted : HasWritten written before after

-- the file of a history, with this name, was written; if memory was out it may not be
abbrev pub NotesHistory : {Value : Type 0} → List ℕ → Result Value End → Notes → Notes → Type 0
NotesHistory name (Ok value) before after = HasWritten (name ∷ []) before after
NotesHistory name (Err NoMemory) before after =
    HasWritten [] before after ⊎ HasWritten (name ∷ []) before after
NotesHistory name (Err end) before after = HasWritten (name ∷ []) before after

-- The files that a command has read and written, each once, in order, and no other.
abbrev pub NotesFiles : Command → End → Notes → Notes → Type 0
NotesFiles command end before after =
    NotesNamed (meaning command).file_name (meaning command).inputs (meaning command).writes end before after
