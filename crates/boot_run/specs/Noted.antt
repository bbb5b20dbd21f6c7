-- The files that a command has read and written, as its host notes them (this project's own).
use Rattle.std.specs.Prelude.{◌≡◌, ℕ, Option, List}
use Rattle.os9_words.specs.Notes.{Notes, having_read, having_written}
use Rattle.boot_run.specs.FileNames.{AreFirstNames}
use Rattle.boot_run.specs.Stops.{StopsReads}
use Rattle.boot_run.specs.declared.status.End.{End}
use Rattle.boot_run.specs.declared.status.End.TheVariants.{CannotRead, NoMemory}
use Rattle.boot_run.specs.declared.status.Input.{Input}

-- the files of its inputs that it has read: those up to the one that could not be read, some if memory was out, and
-- else all
abbrev pub ReadsInputs : (Input → Option (List ℕ)) → List (List ℕ) → End → List (List ℕ) → Type 0
ReadsInputs name_of inputs (CannotRead input) read = StopsReads name_of inputs (CannotRead input) read
ReadsInputs name_of inputs NoMemory read = AreFirstNames read inputs
ReadsInputs name_of inputs end read = read ≡ inputs

-- The files that a command has read and written, each once, in order, and no other: of its inputs, which have these
-- names, and of the files that it writes at this end.
pub record NotesNamedFiles (name_of : Input → Option (List ℕ)) (inputs : List (List ℕ))
    (may_write : End → List (List ℕ) → Type 0) (end : End) (before after : Notes) : Type 0 where
  pub read : List (List ℕ)
  pub reads : ReadsInputs name_of inputs end read
  pub written : List (List ℕ)
  pub writes : may_write end written
  pub noted : after ≡ having_written written (having_read read before)
