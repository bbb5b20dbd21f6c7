-- The names of the files that a command reads and writes.
use Rattle.std.proofs.Common.{◌≡◌, ◌⊎◌, ◌==◌, ℕ, Bool, true, false, Option, Some, Err, List, [], ◌∷◌, ◌++◌, length, take, drop, refl, sym, ap, ◌∙◌, inl, inr, append_assoc, append-nil, take-append-drop}
use Rattle.std.specs.Prelude.{if◌then◌else◌}
use Rattle.std.specs.Option.{option_map_or}
use Rattle.lock_model.specs.declared.history.Entry.{Entry}
use Rattle.os9_words.specs.Notes.{HasReadFiles, HasWritten, Notes, having_read, having_written}
use Rattle.os9_words.specs.declared.command.Command.{Command}
use Rattle.os9_words.specs.declared.command.Command.TheVariants.{Run as RunCommand, Boot as BootCommand, Check as CheckCommand, Stress as StressCommand, Vol as VolCommand, Asm as AsmCommand, Debug as DebugCommand}
use Rattle.os9_outer.specs.Host.{IfObserved}
use Rattle.boot_run.specs.Images.{WritesAll}
use Rattle.boot_run.specs.World.{World, HasNoFault}
use Rattle.boot_run.specs.declared.machine.RunEnd.{RunEnd}
use Rattle.boot_run.specs.declared.machine.RunEnd.TheVariants as Run
use Rattle.machine_model.specs.declared.ends.BootFault.TheVariants.{OutOfMemory, BadModule as BadModuleFault, NoFirst as NoFirstFault, TooLarge as TooLargeFault}
use Rattle.stress_run.specs.declared.stress.StressEnd.{StressEnd}
use Rattle.stress_run.specs.declared.stress.StressEnd.TheVariants as Stress
use Rattle.boot_run.specs.declared.status.End.{End}
use Rattle.boot_run.specs.declared.status.End.TheVariants.{Ended, Living, CannotRead, CannotWrite, CannotWriteFile, CannotWriteImage, NoMemory, BadImage, BadText, BadBounds}
use Rattle.boot_run.specs.declared.status.Input.{Input}
use Rattle.boot_run.specs.declared.status.Input.TheVariants.{Script, Slices}
use Rattle.boot_run.specs.Reading.{RefusesTexts}
use Rattle.boot_run.specs.Stops.{NotesStop}
use Rattle.boot_run.proofs.ReadLemmas.{read-none, written-none}
use Rattle.os9_boot.specs.Asm.{asm_outputs}
use Rattle.os9_boot.specs.Vol.{vol_outputs}
use Rattle.os9_boot.specs.Check.{PrintsAs, PrintsLine}
use Rattle.os9_boot.specs.End.{stress_end}
use Rattle.os9_boot.specs.FileNames.{BootWrites}
use Rattle.os9_boot.specs.FilesNoted.{NotesBack, NotesFiles, NotesHistory, ReadsCommandFiles}
use Rattle.os9_boot.specs.History.{Outputs, output_names, outputs_of}
use Rattle.os9_boot.specs.Images.{RefusesImages}
use Rattle.os9_boot.specs.Meaning.{meaning}
use Rattle.os9_boot.specs.Written.{EndsBoot, StopsAt, WritesHistory, end_unwritten, ends_run}

-- ---- a command

no-file-written : (command : Command) (input : Input) → (meaning command).writes (CannotRead input) []
no-file-written (RunCommand run) input = refl
no-file-written (BootCommand boot) input = refl
no-file-written (CheckCommand image) input = refl
no-file-written (StressCommand seed) input = refl
no-file-written (VolCommand vol) input = refl
no-file-written (AsmCommand asm) input = refl
no-file-written (DebugCommand debug) input = refl

no-file-written-then : (command : Command) → (meaning command).writes NoMemory []
no-file-written-then (RunCommand run) = refl
no-file-written-then (BootCommand boot) = (output_names (outputs_of boot), refl)
no-file-written-then (CheckCommand image) = refl
no-file-written-then (StressCommand seed) = refl
no-file-written-then (VolCommand vol) = (vol_outputs vol, refl)
no-file-written-then (AsmCommand asm) = (asm_outputs asm, refl)
no-file-written-then (DebugCommand debug) = refl

-- no file was written behind what was read
noted-so : (read : List (List ℕ)) (first next : Notes) → HasReadFiles read first next → next ≡ having_written [] (having_read read first)
noted-so read first next noted = noted.is ∙ (written-none (having_read read first)).is

-- its reads stopped
pub names-stopped : (command : Command) (end : End) (first next : Notes) → NotesStop (meaning command).file_name (meaning command).inputs end first next → NotesFiles command end first next
names-stopped command (CannotRead input) first next stopped = record {
  read = stopped.read;
  reads = stopped.stops;
  written = [];
  writes = no-file-written command input;
  noted = noted-so stopped.read first next stopped.noted;
}
names-stopped command NoMemory first next stopped = record {
  read = stopped.read;
  reads = stopped.stops;
  written = [];
  writes = no-file-written-then command;
  noted = noted-so stopped.read first next stopped.noted;
}
names-stopped command end first next stopped = absurd stopped.stops

-- it has read none, since memory was out
pub names-none : (command : Command) (notes : Notes) → NotesFiles command NoMemory notes notes
names-none command notes =
    names-stopped command NoMemory notes notes (record { read = []; stops = ((meaning command).inputs, refl); noted = read-none notes })

-- the end is not that of a read
abbrev pub IsBehindReads : End → Type 0
IsBehindReads (CannotRead input) = ⊥
IsBehindReads end = Unit {0}

all-read : (command : Command) (end : End) → IsBehindReads end → ReadsCommandFiles command end (meaning command).inputs
all-read command (CannotRead input) behind = absurd behind
all-read command NoMemory behind = ([], sym (append-nil (meaning command).inputs))
all-read command end behind = refl

module _ (command : Command) (end : End) (first mid : Notes) (behind : IsBehindReads end) (read : HasReadFiles (meaning command).inputs first mid) where
  -- all was read, and then these files were written
  pub names-written : (written : List (List ℕ)) (next : Notes) → (meaning command).writes end written → HasWritten written mid next → NotesFiles command end first next
  names-written written next writes noted = record {
    read = (meaning command).inputs;
    reads = all-read command end behind;
    written = written;
    writes = writes;
    noted = noted.is ∙ ap (λ (notes : Notes). having_written written notes) read.is;
  }

  -- and none was written
  pub names-read : (next : Notes) → (meaning command).writes end [] → next ≡ mid → NotesFiles command end first next
  names-read next writes same =
      names-written [] next writes (record { is = same ∙ (written-none mid).is })

-- the texts were refused
pub behind-texts : (terminals : ℕ) (script slices : List ℕ) (end : End) → RefusesTexts terminals script slices end → IsBehindReads end
behind-texts terminals script slices NoMemory refused = tt
behind-texts terminals script slices (BadText Script line) refused = tt
behind-texts terminals script slices (BadText Slices line) refused = tt
behind-texts terminals script slices end refused = absurd refused

pub texts-unwritten : (outputs : Outputs) (terminals : ℕ) (script slices : List ℕ) (end : End) → RefusesTexts terminals script slices end → BootWrites outputs end []
texts-unwritten outputs terminals script slices NoMemory refused = (output_names outputs, refl)
texts-unwritten outputs terminals script slices (BadText Script line) refused = refl
texts-unwritten outputs terminals script slices (BadText Slices line) refused = refl
texts-unwritten outputs terminals script slices end refused = absurd refused

-- the images were
pub behind-images : (images : List (List ℕ)) (end : End) → RefusesImages images end → IsBehindReads end
behind-images images NoMemory refused = tt
behind-images images (BadImage number fault) refused = tt
behind-images images BadBounds refused = tt
behind-images images end refused = absurd refused

pub images-unwritten : (outputs : Outputs) (images : List (List ℕ)) (end : End) → RefusesImages images end → BootWrites outputs end []
images-unwritten outputs images NoMemory refused = (output_names outputs, refl)
images-unwritten outputs images (BadImage number fault) refused = refl
images-unwritten outputs images BadBounds refused = refl
images-unwritten outputs images end refused = absurd refused

-- the counts were printed
pub behind-print : (line : List ℕ) (before after : World) (end : End) → PrintsLine line before after end → IsBehindReads end
behind-print line before after end call = by end call.printed
  where
    by : (end : End) → PrintsAs line before after end → IsBehindReads end
    by Ended printed = tt
    by CannotWrite printed = tt
    by NoMemory printed = tt
    by end printed = absurd printed

-- the machine has run
pub behind-run : (end : RunEnd) → IsBehindReads (ends_run end)
behind-run (Run.Ended begun) = tt
behind-run (Run.Living begun) = tt
behind-run (Run.Refused OutOfMemory) = tt
behind-run (Run.Refused (BadModuleFault at error)) = tt
behind-run (Run.Refused NoFirstFault) = tt
behind-run (Run.Refused TooLargeFault) = tt
behind-run (Run.DriveFailed drive number) = tt
behind-run Run.OutputFailed = tt
behind-run Run.NoMemory = tt

-- a stress names no file
pub stress-names : (seed : ℕ) (end : StressEnd) (first next : Notes) → next ≡ first → NotesFiles (StressCommand seed) (stress_end end) first next
stress-names seed end first next same =
    names-read (StressCommand seed) (stress_end end) first first (behind end) (read-none first) next refl same
  where
    behind : (end : StressEnd) → IsBehindReads (stress_end end)
    behind Stress.Ended = tt
    behind Stress.Living = tt
    behind (Stress.DriveFailed drive number) = tt
    behind Stress.OutputFailed = tt
    behind Stress.NoMemory = tt

-- a file was not written
behind-unwritten : (outputs : Outputs) (number : ℕ) → IsBehindReads (end_unwritten outputs number)
behind-unwritten outputs number = by (number == length outputs.images)
  where
    by : (last : Bool) → IsBehindReads (if last then CannotWriteFile else CannotWriteImage number)
    by true = tt
    by false = tt

behind-writes : (outputs : Outputs) (bytes : List (List ℕ)) (end answer : End) (before after : World)
    → IsBehindReads end → ((answer ≡ end) × HasNoFault before after
    × IfObserved (WritesAll (output_names outputs) bytes) before.files after.files) ⊎
    ((number : ℕ) × StopsAt outputs bytes number answer before after) → IsBehindReads answer
behind-writes outputs bytes end answer before after behind (inl (is, sure, all)) = rw is behind
behind-writes outputs bytes end answer before after behind (inr (number, (wrote, inl (is, failed)))) = rw is (behind-unwritten outputs number)
behind-writes outputs bytes end answer before after behind (inr (number, (wrote, inr (is, sure)))) = rw is tt

-- how a boot ended behind its run
pub behind-end : (outputs : Outputs) (bytes : List (List ℕ)) (end : RunEnd) (answer : End) (before after : World) → EndsBoot outputs bytes end answer before after → IsBehindReads answer
behind-end outputs bytes (Run.Ended begun) answer before after ends = behind-writes outputs bytes Ended answer before after tt ends.files
behind-end outputs bytes (Run.Living begun) answer before after ends = behind-writes outputs bytes Living answer before after tt ends.files
behind-end outputs bytes (Run.Refused fault) answer before after (is, same) = rw is (behind-run (Run.Refused fault))
behind-end outputs bytes (Run.DriveFailed drive number) answer before after (is, same) = rw is tt
behind-end outputs bytes Run.OutputFailed answer before after (is, same) = rw is tt
behind-end outputs bytes Run.NoMemory answer before after (is, same) = rw is tt

-- ---- the images and the history of a boot

-- one list of names after another
written-then : (one other : List (List ℕ)) (first mid next : Notes) → HasWritten one first mid → HasWritten other mid next → HasWritten (one ++ other) first next
written-then one other first mid next before behind = record {
  is = behind.is ∙ ap (λ (notes : Notes). having_written other notes) before.is
      ∙ ap (λ (names : List (List ℕ)). record first { written = names }) (append_assoc first.written one other);
}

-- those of a boot whose history was not written, or not wholly
module _ (files : List (List ℕ)) (before : Notes) where
  -- a boot that writes its history in the file of this name, or none
  abbrev Back : Option (List ℕ) → End → Notes → Type 0
  Back told answer after = NotesBack (record { images = files; history = told }) answer before after

  pub back-memory : (told : Option (List ℕ)) (after : Notes) → (count : ℕ) × HasWritten (take count files) before after → Back told NoMemory after
  back-memory told after (count, noted) =
      let more : List (List ℕ) = option_map_or (λ name. name ∷ []) told [] in
      record {
        written = take count files;
        writes =
            (drop count files ++ more, ap (λ names. names ++ more) (sym (take-append-drop count files)) ∙ append_assoc (take count files) (drop count files) more);
        noted = noted;
      }

  module _ (told : Option (List ℕ)) (name : List ℕ) (named : told ≡ Some name) (mid after : Notes)
      (images : HasWritten files before mid) where
    pub back-unwritten : (first last : World) (history : List Entry) (answer : End)
        → WritesHistory {Value = Unit {0}} name history (Err answer) first last
        → NotesHistory {Value = Unit {0}} name (Err answer) mid after → Back told answer after
    back-unwritten first last history CannotWriteFile wrote noted = rw named (record {
      written = files ++ name ∷ [];
      writes = refl;
      noted = written-then files (name ∷ []) before mid after images noted;
    })
    back-unwritten first last history NoMemory wrote (inl noted) = rw named (record {
      written = files ++ [];
      writes = (name ∷ [], ap (λ names. names ++ name ∷ []) (sym (append-nil files)));
      noted = written-then files [] before mid after images noted;
    })
    back-unwritten first last history NoMemory wrote (inr noted) = rw named (record {
      written = files ++ name ∷ [];
      writes = ([], sym (append-nil (files ++ name ∷ [])));
      noted = written-then files (name ∷ []) before mid after images noted;
    })
    back-unwritten first last history answer wrote noted = absurd wrote.stopped
