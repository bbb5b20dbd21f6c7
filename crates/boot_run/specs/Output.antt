-- What a command passes to the output stream, and the file that it makes (this project's own).
use Rattle.std.specs.Prelude.{◌≡◌, ◌≢◌, ◌⊎◌, ℕ, List, [], ◌∷◌, Result, Ok, Err, OnOk, OnErr, IfErr}
use Rattle.os9_outer.specs.Host.{IfObserved, OnFailed, UnlessFailed}
use Rattle.os9_outer.specs.Stream.{GainsPrefix, stream_with}
use Rattle.os9_outer.specs.declared.host.HostFault.{HostFault}
use Rattle.os9_outer.specs.declared.host.HostFault.TheVariants.{Failed, OutOfMemory}
use Rattle.os9_words.specs.Notes.{HasWritten, Notes}
use Rattle.boot_run.specs.Images.{WritesAll, WritesUpTo}
use Rattle.boot_run.specs.World.{World, FailsToWrite, FailsToWriteFile, HasNoFault}
use Rattle.boot_run.specs.declared.status.End.{End}
use Rattle.boot_run.specs.declared.status.End.TheVariants.{CannotWrite, NoMemory}

-- the output stream failed, or memory was out
abbrev pub StopsPrint : World → World → End → Type 0
StopsPrint before after CannotWrite = FailsToWrite before after
StopsPrint before after NoMemory = HasNoFault before after
StopsPrint before after end = ⊥

-- bytes were passed to the output stream: all, or the first ones, and nothing else was done; no bytes do not fail
pub record Prints {Value : Type 0} (bytes : List ℕ) (answer : Result Value End) (before after : World) : Type 0 where
  pub whole : OnOk answer (after.out ≡ stream_with before.out bytes)
  pub prefix : GainsPrefix before.out bytes after.out
  pub no_fault : OnOk answer (HasNoFault before after)
  pub stopped : IfErr answer (StopsPrint before after)
  pub some : OnErr answer (bytes ≢ [])
  pub files : after.files ≡ before.files
  pub devices : after.devices ≡ before.devices

-- the file of this name was written: it holds these bytes, or a part of them may be in it
pub record WritesOutput {Value : Type 0} (name bytes : List ℕ) (answer : Result Value HostFault)
    (before after : World) : Type 0 where
  pub written : OnOk answer (IfObserved (WritesAll (name ∷ []) (bytes ∷ [])) before.files after.files)
  pub part : OnErr answer (IfObserved (WritesUpTo 0 (name ∷ []) (bytes ∷ [])) before.files after.files)
  pub failed : OnFailed answer (FailsToWriteFile name before after)
  pub no_fault : UnlessFailed answer (HasNoFault before after)
  pub out : after.out ≡ before.out
  pub devices : after.devices ≡ before.devices

-- its name is noted; if memory was out it may not be
abbrev pub NotesOutput : {Value : Type 0} → List ℕ → Result Value HostFault → Notes → Notes → Type 0
NotesOutput name (Ok value) before after = HasWritten (name ∷ []) before after
NotesOutput name (Err Failed) before after = HasWritten (name ∷ []) before after
NotesOutput name (Err OutOfMemory) before after =
    HasWritten [] before after ⊎ HasWritten (name ∷ []) before after
