-- The end of a command after the run of its machine.
use Rattle.std.specs.Prelude.{◌≡◌, ◌⊎◌, ℕ, ◌==◌, List, [], ◌∷◌, Result, length, if◌then◌else◌, OnOk, IfErr}
use Rattle.lock_model.specs.Lines.{history_text}
use Rattle.lock_model.specs.declared.history.Entry.{Entry}
use Rattle.os9_outer.specs.Host.{IfObserved}
use Rattle.boot_run.specs.ImageWrites.{FailsAt}
use Rattle.boot_run.specs.Images.{WritesAll, WritesUpTo}
use Rattle.boot_run.specs.World.{World, FailsToWriteFile, HasNoFault}
use Rattle.boot_run.specs.declared.machine.RunEnd.{RunEnd}
use Rattle.boot_run.specs.declared.machine.RunEnd.TheVariants as Run
use Rattle.boot_run.specs.declared.status.End.{End}
use Rattle.boot_run.specs.declared.status.End.TheVariants.{Ended, Living, CannotWrite, CannotWriteFile, CannotWriteImage, NoMemory, DriveFailed}
use Rattle.boot_run.specs.End.{boot_end}
use Rattle.os9_boot.specs.History.{Outputs, output_names}

-- if its images and its history are written, or there are none
abbrev pub ends_run : RunEnd → End
ends_run (Run.Ended begun) = Ended
ends_run (Run.Living begun) = Living
ends_run (Run.Refused fault) = boot_end fault
ends_run (Run.DriveFailed drive number) = DriveFailed drive number
ends_run Run.OutputFailed = CannotWrite
ends_run Run.NoMemory = NoMemory

-- the end of a boot whose file of this number could not be written: the history is after the images
abbrev pub end_unwritten : Outputs → ℕ → End
end_unwritten outputs number =
    if number == length outputs.images then CannotWriteFile else CannotWriteImage number

-- these bytes were written up to the file of this number, at which the host failed, or memory was out
abbrev pub StopsAt : Outputs → List (List ℕ) → ℕ → End → World → World → Type 0
StopsAt outputs bytes number answer before after =
    IfObserved (WritesUpTo number (output_names outputs) bytes) before.files after.files
    × (((answer ≡ end_unwritten outputs number) × FailsAt number (output_names outputs) before after)
    ⊎ ((answer ≡ NoMemory) × HasNoFault before after))

-- the text of a history was written as the file of this name: the host failed there, or memory was out
abbrev pub StopsHistory : List ℕ → List Entry → World → World → End → Type 0
StopsHistory name history before after CannotWriteFile =
    FailsToWriteFile name before after
    × IfObserved (WritesUpTo 0 (name ∷ []) (history_text history ∷ [])) before.files after.files
StopsHistory name history before after NoMemory =
    HasNoFault before after
    × IfObserved (WritesUpTo 0 (name ∷ []) (history_text history ∷ [])) before.files after.files
StopsHistory name history before after end = ⊥

-- whole, or in part; the output and the devices are unchanged
pub record WritesHistory {Value : Type 0} (name : List ℕ) (history : List Entry) (answer : Result Value End)
    (before after : World) : Type 0 where
  pub written : OnOk answer (IfObserved (WritesAll (name ∷ []) (history_text history ∷ [])) before.files after.files)
  pub no_fault : OnOk answer (HasNoFault before after)
  pub stopped : IfErr answer (StopsHistory name history before after)
  pub out_kept : after.out ≡ before.out
  pub devices_kept : after.devices ≡ before.devices

-- The images and the history, with these bytes, were written under their names, all or up to one; the output and the
-- devices are unchanged.
pub record WritesBack (outputs : Outputs) (bytes : List (List ℕ)) (end answer : End) (before after : World) : Type 0
  where
    pub files : ((answer ≡ end) × HasNoFault before after
        × IfObserved (WritesAll (output_names outputs) bytes) before.files after.files)
        ⊎ ((number : ℕ) × StopsAt outputs bytes number answer before after)
    pub out_kept : after.out ≡ before.out
    pub devices_kept : after.devices ≡ before.devices

-- a boot, by the end of its machine's run: it writes its images and its history if that was a whole run, and returns
-- this end
abbrev pub EndsBoot : Outputs → List (List ℕ) → RunEnd → End → World → World → Type 0
EndsBoot outputs bytes (Run.Ended begun) answer before after = WritesBack outputs bytes Ended answer before after
EndsBoot outputs bytes (Run.Living begun) answer before after = WritesBack outputs bytes Living answer before after
EndsBoot outputs bytes end answer before after = (answer ≡ ends_run end) × (after ≡ before)
