-- A call of the console.
use Rattle.std.proofs.Common.{◌≡◌, ℕ, Option, Some, None, List, [], refl, sym, ap, ◌∙◌, subst, append_assoc, append-nil, inl, inr}
use Rattle.std.proofs.lemmas.Bool.{false≢true}
use Rattle.os9_words.specs.Lines.{no_memory_line, words_line}
use Rattle.os9_words.specs.Notes.{Notes, having_read, having_written}
use Rattle.boot_run.specs.World.{World}
use Rattle.boot_run.specs.End.{run_file_name, status_number}
use Rattle.boot_run.specs.Noted.{NotesNamedFiles}
use Rattle.boot_run.specs.declared.status.End.{End}
use Rattle.boot_run.specs.declared.status.End.TheVariants.{NoMemory}
use Rattle.os9_boot.specs.FileNames.{BootWrites}
use Rattle.os9_boot.specs.History.{output_names, outputs_of}
use Rattle.os9_boot.specs.TopCall.{Reports, words_status}
use Rattle.console_run.specs.declared.typed.Typed.{Typed}
use Rattle.console_run.specs.Keyboard.{KeyboardState}
use Rattle.console_run.specs.Lines.{KeepsLines}
use Rattle.os9_console.specs.Call.{ConsoleCall}
use Rattle.os9_console.proofs.CallLemmas.{out-of-memory}
use Rattle.os9_console.specs.Record.{HasWrittenRecord, RecordsIfAsked}
use Rattle.os9_console.specs.TopCall.{ConsoleReport, NotesConsole, TopConsole, console_line, console_status}
use Rattle.os9_console.specs.Words.{console_of}
use Rattle.os9_console.specs.declared.record.Recording.{Recording}
use Rattle.os9_console.specs.declared.record.Recording.TheVariants.{Unasked}
use Rattle.os9_console.specs.declared.words.ConsoleWords.{ConsoleWords}

-- the files of a session, and then those of its record
notes-then : (words : ConsoleWords) (end : End) (recording : Recording) (noted half done : Notes)
    → NotesNamedFiles (run_file_name words.boot) words.boot.files (BootWrites (outputs_of words.boot)) end noted half
    → HasWrittenRecord words.boot recording half done → NotesConsole words.boot end recording noted done
notes-then words end recording noted half done files (texts, records, wrote) =
    let read : Notes = having_read files.read noted in
    record {
      read = files.read;
      reads = files.reads;
      images = files.written;
      writes = files.writes;
      texts = texts;
      records = records;
      noted = wrote.is ∙ ap (having_written texts) files.noted ∙ (λ i. record read { written = append_assoc read.written files.written texts i });
    }

-- a session ended and was recorded or not, and then only the error stream was written
pub console-reported : (words : ConsoleWords) (typed : Typed) (from to : KeyboardState) (before mid between after :
    World) (noted half done notes : Notes) (end : End) (recording : Recording) (status : ℕ) → after ≡ between
    → status ≡ console_status end recording
    → ConsoleCall words.boot typed end from to before mid → NotesNamedFiles (run_file_name words.boot) words.boot.files
    (BootWrites (outputs_of words.boot)) end noted half → RecordsIfAsked words typed end recording mid between
    → HasWrittenRecord words.boot recording half done
    → Reports (console_line words.boot end recording) done notes → ConsoleReport words from to before after noted notes status
console-reported words typed from to before mid between after noted half done notes end recording status same is call files recorded wrote line = record {
  typed = typed;
  end = end;
  mid = mid;
  call = call;
  recording = recording;
  recorded = subst (λ (world : World). RecordsIfAsked words typed end recording mid world) (sym same) recorded;
  status_is = is;
  done = done;
  files = notes-then words end recording noted half done files wrote;
  line = line;
}

module _ (words : List (List ℕ)) (from to : KeyboardState) (before after : World) (noted notes : Notes) where
  -- the words are a command line
  pub top-spelled : (read : ConsoleWords) (status : ℕ) → console_of words ≡ Some read → ConsoleReport read from to
      before after noted notes status → TopConsole words from to before after noted notes status
  top-spelled read status spelled report = rw spelled report

  -- they are not
  pub top-unspelled : Reports words_line noted notes → console_of words ≡ None → after ≡ before → to ≡ from → TopConsole words from to before after noted notes words_status
  top-unspelled line refused same kept = rw refused (record { words = record { undone = same; line = inl (refl, line) }; keyboard = kept })

  -- memory was out before it was known
  pub top-memory : (typed : Typed) → KeepsLines typed from to → Reports no_memory_line noted notes → after ≡ before
      → to ≡ from → TopConsole words from to before after noted notes (status_number NoMemory)
  top-memory typed lines line same kept = by (console_of words) refl
    where
      by : (found : Option ConsoleWords) → console_of words ≡ found → TopConsole words from to before after noted notes (status_number NoMemory)
      by None is = rw is (record { words = record { undone = same; line = inr (refl, line) }; keyboard = kept })
      by (Some read) is =
          rw is (record {
            typed = typed;
            end = NoMemory;
            mid = after;
            call = out-of-memory read.boot typed from to before after lines kept same;
            recording = Unasked;
            recorded = record { unasked = λ none. (refl, refl); asked = λ never. absurd (false≢true never); out = refl; devices = refl };
            status_is = refl;
            done = noted;
            files = record {
              read = [];
              reads = (read.boot.files, refl);
              images = [];
              writes = (output_names (outputs_of read.boot), refl);
              texts = [];
              records = refl;
              noted = λ i. record noted { read = sym (append-nil noted.read) i; written = sym (append-nil noted.written) i };
            };
            line = line;
          })
