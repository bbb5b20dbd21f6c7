-- The files that a session reads, as its host notes them.
use Rattle.std.proofs.Common.{◌≡◌, ℕ, List, [], refl, sym, ◌∙◌, append-nil}
use Rattle.os9_words.specs.Notes.{HasReadFiles, Notes, having_read, having_written}
use Rattle.os9_words.specs.declared.debug_words.DebugWords.{DebugWords}
use Rattle.machine_model.specs.declared.ends.BootFault.TheVariants.{OutOfMemory, BadModule as BadModuleFault, NoFirst as NoFirstFault, TooLarge as TooLargeFault}
use Rattle.std.specs.Prelude.{Result, Ok, Err}
use Rattle.boot_run.specs.Noted.{ReadsInputs}
use Rattle.boot_run.specs.Reading.{RefusesTexts}
use Rattle.boot_run.specs.Stops.{NotesStop}
use Rattle.boot_run.specs.declared.status.End.{End}
use Rattle.boot_run.specs.declared.status.End.TheVariants.{CannotRead, CannotWrite, NoMemory, BadText, BadModule, NoFirst, TooLarge, TerminalFailed}
use Rattle.boot_run.specs.declared.status.Input.TheVariants.{Script, Slices, Commands}
use Rattle.boot_run.proofs.ReadLemmas.{written-none}
use Rattle.os9_debug.specs.declared.machine.SessionFault.{SessionFault}
use Rattle.os9_debug.specs.declared.machine.SessionFault.TheVariants as Fault
use Rattle.os9_debug.specs.Call.{NotesDebug}
use Rattle.os9_debug.specs.Debug.{debug_file_name, debug_inputs}
use Rattle.os9_debug.specs.Steps.{RefusesCommands, session_end}

module _ (debug : DebugWords) (first next : Notes) where
  -- no file was written behind what was read
  none-behind : (read : List (List ℕ)) → HasReadFiles read first next → next ≡ having_written [] (having_read read first)
  none-behind read noted = noted.is ∙ (written-none (having_read read first)).is

  -- a file could not be read
  pub notes-stopped : (end : End) → NotesStop (debug_file_name debug) (debug_inputs debug) end first next → NotesDebug debug end first next
  notes-stopped (CannotRead input) stopped = record {
    read = stopped.read;
    reads = stopped.stops;
    written = [];
    writes = refl;
    noted = none-behind stopped.read stopped.noted;
  }
  notes-stopped NoMemory stopped = record {
    read = stopped.read;
    reads = stopped.stops;
    written = [];
    writes = refl;
    noted = none-behind stopped.read stopped.noted;
  }
  notes-stopped end stopped = absurd stopped.stops

  -- the end is not that of a read
  abbrev IsBehindReads : End → Type 0
  IsBehindReads (CannotRead input) = ⊥
  IsBehindReads end = Unit {0}

  all-read : (end : End) → IsBehindReads end → ReadsInputs (debug_file_name debug) (debug_inputs debug) end (debug_inputs debug)
  all-read (CannotRead input) behind = absurd behind
  all-read NoMemory behind = ([], sym (append-nil (debug_inputs debug)))
  all-read end behind = refl

  module _ (read : HasReadFiles (debug_inputs debug) first next) where
    notes-read : (end : End) → IsBehindReads end → NotesDebug debug end first next
    notes-read end behind = record {
      read = debug_inputs debug;
      reads = all-read end behind;
      written = [];
      writes = refl;
      noted = none-behind (debug_inputs debug) read;
    }

    -- a text was refused
    pub notes-refused : (terminals : ℕ) (script slices : List ℕ) (end : End) → RefusesTexts terminals script slices end → NotesDebug debug end first next
    notes-refused terminals script slices NoMemory refused = notes-read NoMemory tt
    notes-refused terminals script slices (BadText Script line) refused = notes-read (BadText Script line) tt
    notes-refused terminals script slices (BadText Slices line) refused = notes-read (BadText Slices line) tt
    notes-refused terminals script slices end refused = absurd refused

    -- the commands were
    pub notes-uncommanded : (text : List ℕ) (end : End) → RefusesCommands text end → NotesDebug debug end first next
    notes-uncommanded text NoMemory refused = notes-read NoMemory tt
    notes-uncommanded text (BadText Commands line) refused = notes-read (BadText Commands line) tt
    notes-uncommanded text end refused = absurd refused

    -- a session was had
    pub notes-session : {Value : Type 0} (answer : Result Value SessionFault) → NotesDebug debug (session_end answer) first next
    notes-session (Ok value) = notes-read (session_end (Ok value)) tt
    notes-session (Err (Fault.Refused OutOfMemory)) = notes-read NoMemory tt
    notes-session (Err (Fault.Refused (BadModuleFault at error))) = notes-read (BadModule at error) tt
    notes-session (Err (Fault.Refused NoFirstFault)) = notes-read NoFirst tt
    notes-session (Err (Fault.Refused TooLargeFault)) = notes-read TooLarge tt
    notes-session (Err (Fault.TerminalFailed n)) = notes-read (TerminalFailed n) tt
    notes-session (Err Fault.OutputFailed) = notes-read CannotWrite tt
    notes-session (Err Fault.NoMemory) = notes-read NoMemory tt
