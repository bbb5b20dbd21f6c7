-- The names of the files that a session reads and writes.
use Rattle.std.proofs.Common.{◌≡◌, ℕ, List, [], refl, sym, ap, ◌∙◌, append-nil}
use Rattle.os9_words.specs.Notes.{HasReadFiles, HasWritten, Notes, having_written}
use Rattle.os9_words.specs.declared.command.RunWords.{RunWords}
use Rattle.boot_run.specs.End.{run_file_name}
use Rattle.boot_run.specs.Noted.{NotesNamedFiles, ReadsInputs}
use Rattle.boot_run.specs.Stops.{NotesStop}
use Rattle.boot_run.specs.declared.status.End.{End}
use Rattle.boot_run.specs.declared.status.End.TheVariants.{CannotRead, NoMemory}
use Rattle.os9_boot.specs.FileNames.{BootWrites}
use Rattle.os9_boot.specs.History.{output_names, outputs_of}
use Rattle.os9_boot.proofs.NameLemmas.{IsBehindReads}

-- no file was written
pub still-written : (notes : Notes) → notes ≡ having_written [] notes
still-written notes = λ i. record notes { written = sym (append-nil notes.written) i }

-- the reads of its images stopped
pub notes-stopped : (boot : RunWords) (end : End) (first next : Notes) → NotesStop (run_file_name boot) boot.files end
    first next → NotesNamedFiles (run_file_name boot) boot.files (BootWrites (outputs_of boot)) end first next
notes-stopped boot (CannotRead input) first next stopped = record {
  read = stopped.read;
  reads = stopped.stops;
  written = [];
  writes = refl;
  noted = stopped.noted.is ∙ still-written _;
}
notes-stopped boot NoMemory first next stopped = record {
  read = stopped.read;
  reads = stopped.stops;
  written = [];
  writes = (output_names (outputs_of boot), refl);
  noted = stopped.noted.is ∙ still-written _;
}
notes-stopped boot end first next stopped = absurd stopped.stops

all-read : (boot : RunWords) (end : End) → IsBehindReads end → ReadsInputs (run_file_name boot) boot.files end boot.files
all-read boot (CannotRead input) behind = absurd behind
all-read boot NoMemory behind = ([], sym (append-nil boot.files))
all-read boot end behind = refl

-- all images were read, and then these were written
pub notes-after : (boot : RunWords) (end : End) (first mid next : Notes) → IsBehindReads end → HasReadFiles boot.files
    first mid → (written : List (List ℕ)) → BootWrites (outputs_of boot) end written → HasWritten written mid next
    → NotesNamedFiles (run_file_name boot) boot.files (BootWrites (outputs_of boot)) end first next
notes-after boot end first mid next behind read written writes noted = record {
  read = boot.files;
  reads = all-read boot end behind;
  written = written;
  writes = writes;
  noted = noted.is ∙ ap (λ (notes : Notes). having_written written notes) read.is;
}
