-- What is left after images were written under their names.
use Rattle.std.specs.Prelude.{◌≡◌, ℕ, suc, Some, Result, Ok, Err, List, take, slice_get, OnOk, IfErr}
use Rattle.os9_outer.specs.Host.{IfObserved}
use Rattle.os9_words.specs.Notes.{HasWritten, Notes}
use Rattle.boot_run.specs.World.{World, FailsToWriteFile, HasNoFault}
use Rattle.boot_run.specs.Images.{WritesAll, WritesUpTo}
use Rattle.boot_run.specs.declared.write.WriteFault.{WriteFault}
use Rattle.boot_run.specs.declared.write.WriteFault.TheVariants.{Image, OutOfMemory}

-- the host failed, and last at the write of the image of this number
abbrev pub FailsAt : ℕ → List (List ℕ) → World → World → Type 0
FailsAt number names before after =
    (name : List ℕ) × (slice_get names number ≡ Some name) × FailsToWriteFile name before after

-- the images were written up to one that failed: the host failed there, or memory was out
abbrev pub StopsWrite : List (List ℕ) → List (List ℕ) → World → World → WriteFault → Type 0
StopsWrite names images before after (Image number) =
    IfObserved (WritesUpTo number names images) before.files after.files × FailsAt number names before after
StopsWrite names images before after OutOfMemory =
    ((number : ℕ) × IfObserved (WritesUpTo number names images) before.files after.files) × HasNoFault before after

-- all images were written, or those up to one; the output and the devices are unchanged
pub record WritesImages {Value : Type 0} (names images : List (List ℕ)) (answer : Result Value WriteFault)
    (before after : World) : Type 0 where
  pub written : OnOk answer (IfObserved (WritesAll names images) before.files after.files)
  pub no_fault : OnOk answer (HasNoFault before after)
  pub stopped : IfErr answer (StopsWrite names images before after)
  pub out_kept : after.out ≡ before.out
  pub devices_kept : after.devices ≡ before.devices

-- the written files, by their names: each once, in order; those up to the one that failed, or the first ones if memory
-- was out
abbrev pub NotesWrites : {Value : Type 0} → List (List ℕ) → Result Value WriteFault → Notes → Notes → Type 0
NotesWrites names (Ok _) before after = HasWritten names before after
NotesWrites names (Err (Image number)) before after = HasWritten (take (suc number) names) before after
NotesWrites names (Err OutOfMemory) before after = (count : ℕ) × HasWritten (take count names) before after
