-- A call of the console.
use Rattle.std.specs.Prelude.{◌≡◌, ℕ, MatchOption, List, [], ◌++◌, codes, unwrap_or}
use Rattle.std.specs.Option.{option_map_or}
use Rattle.os9_words.specs.Lines.{cannot_write_file_line, line_of, no_memory_line}
use Rattle.os9_words.specs.Notes.{Notes, having_read, having_written}
use Rattle.os9_words.specs.declared.command.RunWords.{RunWords}
use Rattle.boot_run.specs.World.{World}
use Rattle.boot_run.specs.End.{named_by, run_file_name, status_number}
use Rattle.boot_run.specs.EndLines.{end_line}
use Rattle.boot_run.specs.Noted.{ReadsInputs}
use Rattle.boot_run.specs.declared.status.End.{End}
use Rattle.boot_run.specs.declared.status.Input.{Input}
use Rattle.console_run.specs.Keyboard.{KeyboardState}
use Rattle.console_run.specs.declared.typed.Typed.{Typed}
use Rattle.os9_boot.specs.FileNames.{BootWrites}
use Rattle.os9_boot.specs.History.{outputs_of}
use Rattle.os9_boot.specs.TopCall.{Reports, WordsReport}
use Rattle.os9_console.specs.Call.{ConsoleCall}
use Rattle.os9_console.specs.Record.{RecordWrites, RecordsIfAsked}
use Rattle.os9_console.specs.Words.{console_of}
use Rattle.os9_console.specs.declared.record.Recording.{Recording}
use Rattle.os9_console.specs.declared.record.Recording.TheVariants.{TooLong, Unwritten, NoMemory}
use Rattle.os9_console.specs.declared.words.ConsoleWords.{ConsoleWords}

-- ---- the status, and the line that says why the session ended, or was not recorded

abbrev pub console_status : End → Recording → ℕ
console_status end (Unwritten input) = status_number End.CannotWriteFile
console_status end NoMemory = status_number End.NoMemory
console_status end recording = status_number end

-- the session is longer than texts may be
abbrev pub too_long_line : List ℕ
too_long_line = line_of (codes "os9: the session is too long to be recorded")

-- the name of a file that the words give
abbrev pub name_of : RunWords → Input → List ℕ
name_of boot input = unwrap_or (run_file_name boot input) []

abbrev pub console_line : RunWords → End → Recording → List ℕ
console_line boot end TooLong = too_long_line
console_line boot end (Unwritten input) = cannot_write_file_line (name_of boot input)
console_line boot end NoMemory = no_memory_line
console_line boot end recording = end_line (option_map_or (name_of boot) (named_by end) []) end

-- ---- the call

-- The files that it has read and written, each once, in order, and no other: the images are read, the images of a
-- session that is over are written, and then the files of its record.
pub record NotesConsole (boot : RunWords) (end : End) (recording : Recording) (before after : Notes) : Type 0 where
  pub read : List (List ℕ)
  pub reads : ReadsInputs (run_file_name boot) boot.files end read
  pub images : List (List ℕ)
  pub writes : BootWrites (outputs_of boot) end images
  pub texts : List (List ℕ)
  pub records : RecordWrites boot recording texts
  pub noted : after ≡ having_written (images ++ texts) (having_read read before)

-- The disks that the words name were booted at a keyboard: the session ended so, and was recorded or not; then the line
-- that says why was reported.
pub record ConsoleReport (words : ConsoleWords) (from to : KeyboardState) (before after : World)
    (noted notes : Notes) (status : ℕ) : Type 0 where
  pub typed : Typed
  pub end : End
  pub mid : World
  pub call : ConsoleCall words.boot typed end from to before mid
  pub recording : Recording
  pub recorded : RecordsIfAsked words typed end recording mid after
  pub status_is : status ≡ console_status end recording
  pub done : Notes
  pub files : NotesConsole words.boot end recording noted done
  pub line : Reports (console_line words.boot end recording) done notes

-- the words are no command line of the console: nothing was done, and the keyboard was not asked
pub record NoConsole (from to : KeyboardState) (before after : World) (noted notes : Notes) (status : ℕ)
    : Type 0 where
  pub words : WordsReport before after noted notes status
  pub keyboard : to ≡ from

-- The headline of the console: the words spell a boot at whose machine a person types, which was done; or they spell
-- none, and nothing was done.
abbrev pub TopConsole : List (List ℕ) → KeyboardState → KeyboardState → World → World → Notes → Notes → ℕ → Type 0
TopConsole words from to before after noted notes status =
    MatchOption (console_of words) (NoConsole from to before after noted notes status)
    (λ read. ConsoleReport read from to before after noted notes status)
