-- The files that `vol` reads and writes, as its host notes them.
use Rattle.std.proofs.Common.{◌≡◌, ℕ, Result, Ok, Err, List, [], refl, sym, ap, subst, ◌∙◌, inl, inr, append-nil}
use Rattle.os9_words.specs.Notes.{HasReadFiles, HasWritten, Notes, having_read, having_written}
use Rattle.os9_words.specs.declared.vol_words.Verb.TheVariants.{Format}
use Rattle.os9_words.specs.declared.vol_words.VolWords.{VolWords}
use Rattle.boot_run.specs.World.{World}
use Rattle.boot_run.specs.Stops.{NotesStop}
use Rattle.boot_run.specs.declared.status.End.{End}
use Rattle.boot_run.specs.declared.status.End.TheVariants.{Ended, CannotRead, CannotWrite, CannotWriteImage, CannotWriteFile, NoMemory, BadImage, DriveFailed, Refused}
use Rattle.boot_run.proofs.ReadLemmas.{read-none, written-none}
use Rattle.os9_boot.specs.VolCall.{NotesMaking, NotesVol}
use Rattle.os9_boot.specs.VolLeft.{NotesOutputs}
use Rattle.os9_boot.specs.VolSteps.{Finishes, FormatsDisk, MakesOf}
use Rattle.os9_boot.specs.Vol.{inputs_of, vol_file_name, vol_inputs, vol_outputs}
use Rattle.os9_boot.specs.declared.made.Made.{Made}

-- no file was written behind what was read
none-behind : (read : List (List ℕ)) (first next : Notes) → HasReadFiles read first next → next ≡ having_written [] (having_read read first)
none-behind read first next noted = noted.is ∙ (written-none (having_read read first)).is

-- the reads stopped
pub notes-stopped : (vol : VolWords) (end : End) (first next : Notes) → NotesStop (vol_file_name vol) (vol_inputs vol) end first next → NotesVol vol end first next
notes-stopped vol (CannotRead input) first next stopped = record {
  read = stopped.read;
  reads = stopped.stops;
  written = [];
  writes = refl;
  noted = none-behind stopped.read first next stopped.noted;
}
notes-stopped vol NoMemory first next stopped = record {
  read = stopped.read;
  reads = stopped.stops;
  written = [];
  writes = (vol_outputs vol, refl);
  noted = none-behind stopped.read first next stopped.noted;
}
notes-stopped vol end first next stopped = absurd stopped.stops

-- `format` reads none
no-inputs : (vol : VolWords) → vol.verb ≡ Format → vol_inputs vol ≡ []
no-inputs vol format = ap (λ verb. inputs_of verb vol) format

pub notes-formatted : (vol : VolWords) (result : Result Made End) (notes : Notes) → vol.verb ≡ Format → FormatsDisk vol result → NotesMaking vol result notes notes
notes-formatted vol (Ok made) notes format is =
    subst (λ names. HasReadFiles names notes notes) (sym (no-inputs vol format)) (read-none notes)
notes-formatted vol (Err NoMemory) notes format is =
    notes-stopped vol NoMemory notes notes (record { read = []; stops = (vol_inputs vol, refl); noted = read-none notes })
notes-formatted vol (Err end) notes format is = absurd is

-- all was read, and then it ended
module _ (vol : VolWords) (first mid : Notes) (read : HasReadFiles (vol_inputs vol) first mid) where
  pub notes-made : (image bytes : List ℕ) (result : Result Made End) → MakesOf vol image bytes result → NotesMaking vol result first mid
  notes-made image bytes (Ok made) is = read
  notes-made image bytes (Err (BadImage number fault)) is = record { read = vol_inputs vol; reads = refl; written = []; writes = refl; noted = none-behind (vol_inputs vol) first mid read }
  notes-made image bytes (Err (Refused number)) is = record { read = vol_inputs vol; reads = refl; written = []; writes = refl; noted = none-behind (vol_inputs vol) first mid read }
  notes-made image bytes (Err (DriveFailed drive number)) is = record { read = vol_inputs vol; reads = refl; written = []; writes = refl; noted = none-behind (vol_inputs vol) first mid read }
  notes-made image bytes (Err NoMemory) is = record {
    read = vol_inputs vol;
    reads =
        ([], sym (append-nil (vol_inputs vol)));
    written = [];
    writes = (vol_outputs vol, refl);
    noted = none-behind
        (vol_inputs vol) first mid read;
  }
  notes-made image bytes (Err end) is = absurd is

  -- or its file was written
  written-behind : (next : Notes) (outputs : List (List ℕ)) → HasWritten outputs mid next → next ≡ having_written outputs (having_read (vol_inputs vol) first)
  written-behind next outputs noted = noted.is ∙ ap (λ (notes : Notes). having_written outputs notes) read.is

  pub notes-finished : (end : End) (answer image : List ℕ) (before after : World) (next : Notes) → Finishes vol answer
      image end before after → NotesOutputs vol end mid next → NotesVol vol end first next
  notes-finished Ended answer image before after next done outputs = record {
    read = vol_inputs vol;
    reads = refl;
    written = outputs.written;
    writes = outputs.writes;
    noted = written-behind next outputs.written outputs.noted;
  }
  notes-finished CannotWrite answer image before after next done outputs = record {
    read = vol_inputs vol;
    reads =
        refl;
    written = outputs.written;
    writes = outputs.writes;
    noted = written-behind next outputs.written
        outputs.noted;
  }
  notes-finished (CannotWriteImage number) answer image before after next done outputs = record {
    read = vol_inputs vol;
    reads = refl;
    written = outputs.written;
    writes = outputs.writes;
    noted =
        written-behind next outputs.written outputs.noted;
  }
  notes-finished CannotWriteFile answer image before after next done outputs = record {
    read = vol_inputs vol;
    reads =
        refl;
    written = outputs.written;
    writes = outputs.writes;
    noted = written-behind next outputs.written
        outputs.noted;
  }
  notes-finished NoMemory answer image before after next done outputs = record {
    read = vol_inputs vol;
    reads =
        ([], sym (append-nil (vol_inputs vol)));
    written = outputs.written;
    writes = outputs.writes;
    noted =
        written-behind next outputs.written outputs.noted;
  }
  notes-finished end answer image before after next (inl then_) outputs = absurd then_.writes.ends
  notes-finished end answer image before after next (inr ends) outputs = absurd ends.stopped
