-- The files of a session, which are those of a run and the commands.
use Rattle.std.proofs.Common.{◌≡◌, ℕ, Option, Some, None, List, [], ◌∷◌, slice_get}
use Rattle.std.specs.Prelude.{IfSome}
use Rattle.os9_outer.specs.Host.{HostFiles, file_contents}
use Rattle.os9_words.specs.Notes.{Notes}
use Rattle.os9_words.specs.declared.debug_words.DebugWords.{DebugWords}
use Rattle.boot_run.specs.World.{World}
use Rattle.boot_run.specs.End.{run_file_name}
use Rattle.boot_run.specs.Setup.{script_of}
use Rattle.boot_run.specs.Stops.{NotesStop, StopsAtRead, StopsReads}
use Rattle.boot_run.specs.declared.status.End.{End}
use Rattle.boot_run.specs.declared.status.End.TheVariants.{CannotRead, NoMemory}
use Rattle.boot_run.specs.declared.status.Input.{Input}
use Rattle.boot_run.specs.declared.status.Input.TheVariants.{Commands}
use Rattle.os9_debug.specs.Debug.{debug_file_name}
use Rattle.os9_debug.specs.Steps.{HasDebugFiles}
use Rattle.os9_debug.specs.declared.files.DebugFiles.{DebugFiles}

module _ (debug : DebugWords) where
  -- a file of the run is one of the session
  named : (input : Input) (name : List ℕ) → run_file_name debug.run input ≡ Some name → debug_file_name debug input ≡ Some name
  named Commands name is = absurd (cc is)
  named input name is = is

  pub stops-so : (before after : World) (end : End) → StopsAtRead (run_file_name debug.run) before after end → StopsAtRead (debug_file_name debug) before after end
  stops-so before after (CannotRead input) (name, is, could) = (name, named input name is, could)
  stops-so before after NoMemory stops = stops
  stops-so before after end stops = absurd stops

  pub notes-so : (names : List (List ℕ)) (end : End) (first next : Notes) → NotesStop (run_file_name debug.run) names end first next → NotesStop (debug_file_name debug) names end first next
  notes-so names end first next stopped =
      record { read = stopped.read; stops = by end stopped.stops; noted = stopped.noted }
    where
      by : (end : End) → StopsReads (run_file_name debug.run) names end stopped.read → StopsReads (debug_file_name debug) names end stopped.read
      by (CannotRead input) (name, is, up_to) = (name, named input name is, up_to)
      by NoMemory stops = stops
      by end stops = absurd stops

-- the four files were read
pub has-files : (told : Option HostFiles) (debug : DebugWords) (read : DebugFiles) (name : List ℕ)
    → slice_get debug.run.files 0 ≡ Some name → IfSome told (λ files. read.script.items ≡ script_of files debug.run)
    → IfSome told (λ files. read.slices.items ≡ file_contents files debug.run.slices)
    → IfSome told (λ files. read.commands.items ≡ file_contents files debug.commands)
    → IfSome told (λ files. read.modules.items ≡ file_contents files name)
    → IfSome told (λ files. HasDebugFiles files debug read)
has-files None debug read name is script slices commands modules = tt
has-files (Some files) debug read name is script slices commands modules =
    record { script = script; slices = slices; commands = commands; modules = (name, is, modules) }
