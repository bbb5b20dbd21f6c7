-- The files that `asm` reads and writes, as its host notes them.
use Rattle.std.proofs.Common.{◌≡◌, ℕ, List, [], refl, sym, ap, ◌∙◌, append-nil}
use Rattle.os9_words.specs.Notes.{HasReadFiles, HasWritten, Notes, having_read, having_written}
use Rattle.os9_words.specs.declared.asm_words.AsmWords.{AsmWords}
use Rattle.boot_run.specs.World.{World}
use Rattle.boot_run.specs.Stops.{NotesStop}
use Rattle.boot_run.specs.declared.status.End.{End}
use Rattle.boot_run.specs.declared.status.End.TheVariants.{Ended, CannotRead, CannotWriteFile, NoMemory, BadSource}
use Rattle.boot_run.proofs.ReadLemmas.{written-none}
use Rattle.os9_boot.specs.Asm.{asm_file_name, asm_inputs, asm_outputs}
use Rattle.os9_boot.specs.AsmCall.{NotesAsm}
use Rattle.os9_boot.specs.AsmSteps.{NotesOut, RefusesSource, WritesAsmOut}

-- no file was written behind what was read
none-behind : (read : List (List ℕ)) (first next : Notes) → HasReadFiles read first next → next ≡ having_written [] (having_read read first)
none-behind read first next noted = noted.is ∙ (written-none (having_read read first)).is

-- SOURCE could not be read
pub notes-stopped : (asm : AsmWords) (end : End) (first next : Notes) → NotesStop (asm_file_name asm) (asm_inputs asm) end first next → NotesAsm asm end first next
notes-stopped asm (CannotRead input) first next stopped = record {
  read = stopped.read;
  reads = stopped.stops;
  written = [];
  writes = refl;
  noted = none-behind stopped.read first next stopped.noted;
}
notes-stopped asm NoMemory first next stopped = record {
  read = stopped.read;
  reads = stopped.stops;
  written = [];
  writes = (asm_outputs asm, refl);
  noted = none-behind stopped.read first next stopped.noted;
}
notes-stopped asm end first next stopped = absurd stopped.stops

module _ (asm : AsmWords) (first mid : Notes) (read : HasReadFiles (asm_inputs asm) first mid) where
  -- the source was refused
  pub notes-refused : (source : List ℕ) (end : End) → RefusesSource source end → NotesAsm asm end first mid
  notes-refused source (BadSource line error) is = record { read = asm_inputs asm; reads = refl; written = []; writes = refl; noted = none-behind (asm_inputs asm) first mid read }
  notes-refused source NoMemory is = record {
    read = asm_inputs asm;
    reads = ([], sym (append-nil (asm_inputs asm)));
    written = [];
    writes = (asm_outputs asm, refl);
    noted = none-behind (asm_inputs asm) first mid read;
  }
  notes-refused source end is = absurd is

  written-behind : (next : Notes) (outputs : List (List ℕ)) → HasWritten outputs mid next → next ≡ having_written outputs (having_read (asm_inputs asm) first)
  written-behind next outputs noted = noted.is ∙ ap (λ (notes : Notes). having_written outputs notes) read.is

  -- its module was written
  pub notes-written : (bytes : List ℕ) (end : End) (before after : World) (next : Notes) → WritesAsmOut asm bytes end before after → NotesOut asm end mid next → NotesAsm asm end first next
  notes-written bytes Ended before after next wrote out = record { read = asm_inputs asm; reads = refl; written = out.written; writes = out.writes; noted = written-behind next out.written out.noted }
  notes-written bytes CannotWriteFile before after next wrote out = record {
    read = asm_inputs asm;
    reads = refl;
    written = out.written;
    writes = out.writes;
    noted = written-behind next out.written out.noted;
  }
  notes-written bytes NoMemory before after next wrote out = record {
    read = asm_inputs asm;
    reads =
        ([], sym (append-nil (asm_inputs asm)));
    written = out.written;
    writes = out.writes;
    noted = written-behind next
        out.written out.noted;
  }
  notes-written bytes end before after next wrote out = absurd wrote.ends
