-- The outcome of a run: what the machine wrote, its last state, and the images that hold the volumes of that state
-- (this project's own).
use Rattle.std.specs.Prelude.{◌≡◌, ◌≢◌, ◌⊎◌, ⊤, ℕ, Bool, true, false, Some, List, length, slice_get, All}
use Rattle.os9_outer.specs.Stream.{stream_with}
use Rattle.rbf_model.specs.Volume.{DiskVolume}
use Rattle.file_drives.specs.Drives.{drive_states}
use Rattle.file_rules.specs.Files.{volume_at}
use Rattle.lock_model.specs.declared.history.Entry.{Entry}
use Rattle.machine_model.specs.Run.{Run}
use Rattle.machine_model.specs.State.{State, has_living}
use Rattle.run_laws.specs.Images.{IsWrittenBack}
use Rattle.boot_run.specs.Console.{IsObserved}
use Rattle.os9_kernel.specs.Changes.{NoneAsks}
use Rattle.boot_run.specs.Machine.{IsUnrun, Judges, LeavesUnrun, RunsFirst, Setup, StartsLoaded}
use Rattle.boot_run.specs.Slices.{ComesInto}
use Rattle.boot_run.specs.World.{World, FailsToWrite, HasNoFault}
use Rattle.boot_run.specs.declared.machine.RunEnd.{RunEnd}
use Rattle.boot_run.specs.declared.machine.RunEnd.TheVariants.{Ended, Living, OutputFailed, NoMemory}
use Rattle.boot_run.specs.Drives.{holding}
use Rattle.boot_run.specs.Ready.{AreEmptyAgain}

-- an image holds the volume of a drive: it has the length of the one that was put in, its first sector and the bytes
-- after its volume
pub record IsImageOf (t : State) (drive : ℕ) (old new : List ℕ) : Type 0 where
  pub volume : DiskVolume
  pub is : volume_at t.files drive ≡ Some volume
  pub back : IsWrittenBack old new volume

-- the images hold the volumes of a state, those of D0, D1, D2 and D3 in this order
pub record AreImagesOf (t : State) (old new : List (List ℕ)) : Type 0 where
  pub as_many : length new ≡ length old
  pub each : (drive : ℕ) (before after : List ℕ) → slice_get old drive ≡ Some before
      → slice_get new drive ≡ Some after → IsImageOf t drive before after

-- an image is unchanged, byte for byte, if no event of a run asks for a change of the volume in its drive
abbrev pub KeepsUnchanged : Setup → State → List State → List (List ℕ) → Type 0
KeepsUnchanged setup s states images =
    (drive : ℕ) → NoneAsks (ComesInto setup.slices s) states drive
    → slice_get images drive ≡ slice_get setup.images drive

-- The machine of this setup ran over all its slices: from the state in which it starts, with the devices of the call,
-- through the states of a run to this one. Its terminals and the states of its drives are the current ones.
pub record HasOutcome (setup : Setup) (t : State) (written : List ℕ) (images : List (List ℕ)) (before after : World)
    : Type 0 where
  pub s : State
  pub starts : StartsLoaded setup before s
  pub states : List State
  pub run : Run setup.slices s states written t
  pub terminals : after.devices.terms ≡ t.terms
  pub drives : drive_states after.devices.drives ≡ t.files.drives
  pub volumes : AreImagesOf t setup.images images
  pub unchanged : KeepsUnchanged setup s states images

-- it ran to its end: a process lives then or none does, `begun` slices were begun, each of which is a tick, this is the
-- history of its record locks, and the output has gained what it wrote
pub record EndsWithImages (setup : Setup) (lives : Bool) (begun : ℕ) (images : List (List ℕ)) (history : List Entry)
    (before after : World) : Type 0 where
  pub t : State
  pub written : List ℕ
  pub outcome : HasOutcome setup t written images before after
  pub living : has_living t ≡ lives
  pub ticks : begun ≡ t.processes.tick
  pub recorded : history ≡ t.files.records.history
  pub output : after.out ≡ stream_with before.out written

-- the world with these images in its first drives, before they were taken out
abbrev pub with_images_in : List (List ℕ) → World → World
with_images_in images world = record world {
  devices = record { drives = holding images world.devices.drives; terms = world.devices.terms };
}

-- it was run over the first of its slices, and stopped with these images in its drives; they hold the volumes of the
-- state then, or those after the attempt whose entry in the history found no memory
pub record StopsWithImages (setup : Setup) (before after : World) : Type 0 where
  pub images : List (List ℕ)
  pub first : RunsFirst setup before (with_images_in images after)

-- its outcome, by how its run ended; if it stopped before its end, the images are those in its drives then
abbrev pub RunGives : Setup → List (List ℕ) → List Entry → World → World → RunEnd → Type 0
RunGives setup images history before after (Ended begun) =
    EndsWithImages setup false begun images history before after
RunGives setup images history before after (Living begun) =
    EndsWithImages setup true begun images history before after
RunGives setup images history before after OutputFailed = RunsFirst setup before (with_images_in images after)
RunGives setup images history before after NoMemory =
    IsUnrun before after ⊎ RunsFirst setup before (with_images_in images after)
RunGives setup images history before after end = ⊤

-- A machine was started with the images in its drives and run over its slices, these images were taken out again, and
-- this history was handed out.
pub record RunsImages (setup : Setup) (images : List (List ℕ)) (history : List Entry) (before after : World)
    (end : RunEnd) : Type 0 where
  pub gives : All IsObserved before.devices.terms → RunGives setup images history before after end
  pub judged : Judges setup end
  pub unrun : LeavesUnrun (length setup.images) before after end
  pub drives : AreEmptyAgain before.devices.drives after.devices.drives
  -- the host failed, and last at a write to the output; at every other end it did not fail
  pub output_fault : end ≡ OutputFailed → FailsToWrite before after
  pub no_fault : end ≢ OutputFailed → HasNoFault before after
  pub files_kept : after.files ≡ before.files
