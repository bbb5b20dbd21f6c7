-- A call of the program.
use Rattle.std.specs.Prelude.{◌≡◌, ℕ, ◌⊎◌, List, MatchOption}
use Rattle.os9_base.specs.Count.{Rose}
use Rattle.os9_outer.specs.Stream.{GainsPrefix, stream_with}
use Rattle.os9_words.specs.declared.command.Command.{Command}
use Rattle.os9_words.specs.Command.{command_of}
use Rattle.os9_words.specs.Lines.{words_line, no_memory_line}
use Rattle.os9_words.specs.Notes.{Notes}
use Rattle.boot_run.specs.World.{World}
use Rattle.boot_run.specs.declared.status.End.{End}
use Rattle.boot_run.specs.declared.status.End.TheVariants.{NoMemory}
use Rattle.os9_boot.specs.Commands.{CommandCall}
use Rattle.boot_run.specs.End.{status_number}
use Rattle.os9_boot.specs.EndLines.{end_line}
use Rattle.os9_boot.specs.FilesNoted.{NotesFiles}

-- the error stream gained this whole line
pub record GainsLine (line : List ℕ) (before after : Notes) : Type 0 where
  pub gained : after.err ≡ stream_with before.err line
  pub no_fault : after.err_faults ≡ before.err_faults

-- the error stream failed, and gained the beginning of this line: all, some or none of it
pub record LosesErrorLine (line : List ℕ) (before after : Notes) : Type 0 where
  pub gained : GainsPrefix before.err line after.err
  pub fault : Rose before.err_faults after.err_faults

-- The line was reported: it is whole on the error stream, or that stream failed. No file was read or written.
pub record Reports (line : List ℕ) (before after : Notes) : Type 0 where
  pub told : GainsLine line before after ⊎ LosesErrorLine line before after
  pub read_kept : after.read ≡ before.read
  pub written_kept : after.written ≡ before.written

-- A command was done with this end and this status: it read and wrote its files, and then the line that says why it
-- ended was reported.
pub record CommandReport (command : Command) (before after : World) (noted notes : Notes) (status : ℕ) : Type 0 where
  pub end : End
  pub status_is : status ≡ status_number end
  pub call : CommandCall command before after end
  pub done : Notes
  pub files : NotesFiles command end noted done
  pub line : Reports (end_line command end) done notes

-- the status if the words are not a command line
abbrev pub words_status : ℕ
words_status = 1

-- The words are not a command line: nothing was done. If memory is out that is not known.
pub record WordsReport (before after : World) (noted notes : Notes) (status : ℕ) : Type 0 where
  pub undone : after ≡ before
  pub line : ((status ≡ words_status) × Reports words_line noted notes)
      ⊎ ((status ≡ status_number NoMemory) × Reports no_memory_line noted notes)

-- The headline: the words spell a command, which was done; or they do not, and nothing was done.
abbrev pub TopCall : List (List ℕ) → World → World → Notes → Notes → ℕ → Type 0
TopCall words before after noted notes status =
    MatchOption (command_of words) (WordsReport before after noted notes status)
    (λ command. CommandReport command before after noted notes status)
