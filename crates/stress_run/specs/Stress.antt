-- What `stress` runs and prints (this project's own).
use Rattle.std.specs.Prelude.{◌≡◌, ◌≢◌, ◌⊎◌, ◌++◌, ℕ, ⊤, Bool, true, false, Some, List, [], ◌∷◌, All}
use Rattle.os9_outer.specs.Stream.{stream_with, GainsPrefix}
use Rattle.os9_words.specs.Times.{default_start}
use Rattle.os9_words.specs.Lines.{stress_line}
use Rattle.rbf_model.specs.Volume.{DiskVolume}
use Rattle.guest_mods.specs.BootDisk.{boot_image}
use Rattle.guest_mods.specs.declared.load.Load.{Load}
use Rattle.guest_mods.specs.Random.{slice_lengths}
use Rattle.guest_mods.specs.Stress.{stress_file}
use Rattle.file_rules.specs.Files.{volume_at}
use Rattle.machine_model.specs.State.{State, has_living}
use Rattle.boot_run.specs.Outcome.{HasOutcome, StopsWithImages}
use Rattle.boot_run.specs.Console.{IsObserved}
use Rattle.boot_run.specs.Machine.{FailsToMount, IsUnrun, Setup}
use Rattle.boot_run.specs.World.{World, FailsToWrite, HasNoFault}
use Rattle.stress_run.specs.declared.stress.TheConstants.{RECORDS}
use Rattle.stress_run.specs.declared.stress.StressEnd.{StressEnd}
use Rattle.stress_run.specs.declared.stress.StressEnd.TheVariants.{Ended, Living, DriveFailed, OutputFailed, NoMemory}
use Rattle.stress_run.specs.Counts.{counts_with}

-- four Workers, each of which writes its file 40 times in a number of records
abbrev pub stress_load : ℕ → Load
stress_load seed = record { seed = seed; workers = 4; passes = 40; records = RECORDS }

-- the disk made of this load is booted over 20,000 slices, with 64 blocks and no keys, at the usual time
abbrev pub stress_setup : ℕ → Setup
stress_setup seed = record {
  file = stress_file (stress_load seed);
  blocks = 64;
  time = default_start;
  images = boot_image (stress_file (stress_load seed)) ∷ [];
  keys = [];
  slices = slice_lengths seed 20000;
}

-- the line of the counts of the machine's last state, with this volume in D0: the slices that were begun, each of which
-- is a tick, and what the volume has
abbrev pub stress_counts : State → DiskVolume → List ℕ
stress_counts t v = stress_line (counts_with t.processes.tick v)

-- the machine ran to its end, and this is the volume of D0 then
pub record StressRuns (seed : ℕ) (t : State) (written : List ℕ) (volume : DiskVolume) (before after : World) : Type 0
  where
    pub images : List (List ℕ)
    pub outcome : HasOutcome (stress_setup seed) t written images before after
    pub is : volume_at t.files 0 ≡ Some volume

-- a process lives then or none does, and the output has gained what the machine wrote and the line of the counts
pub record StressEnds (seed : ℕ) (lives : Bool) (before after : World) : Type 0 where
  pub t : State
  pub written : List ℕ
  pub volume : DiskVolume
  pub runs : StressRuns seed t written volume before after
  pub living : has_living t ≡ lives
  pub output : after.out ≡ stream_with before.out (written ++ stress_counts t volume)

-- the line is not whole on the output
pub record StressUnprinted (seed : ℕ) (before after : World) : Type 0 where
  pub t : State
  pub written : List ℕ
  pub volume : DiskVolume
  pub runs : StressRuns seed t written volume before after
  pub output : GainsPrefix (stream_with before.out written) (stress_counts t volume) after.out

-- it stopped in its run, or after it
abbrev pub StressStops : ℕ → World → World → Type 0
StressStops seed before after = StopsWithImages (stress_setup seed) before after ⊎ StressUnprinted seed before after

-- the outcome of a stress, by its end
abbrev pub StressComesTo : ℕ → World → World → StressEnd → Type 0
StressComesTo seed before after Ended = StressEnds seed false before after
StressComesTo seed before after Living = StressEnds seed true before after
StressComesTo seed before after (DriveFailed drive number) = ⊤
StressComesTo seed before after OutputFailed = StressStops seed before after
StressComesTo seed before after NoMemory = IsUnrun before after ⊎ StressStops seed before after

-- if the drive of its image failed, nothing else has changed
abbrev pub LeavesStress : World → World → StressEnd → Type 0
LeavesStress before after (DriveFailed drive number) = FailsToMount 1 drive number before after
LeavesStress before after end = ⊤

-- a stress was done, with this end
pub record StressCall (seed : ℕ) (before after : World) (end : StressEnd) : Type 0 where
  pub comes : All IsObserved before.devices.terms → StressComesTo seed before after end
  pub devices : LeavesStress before after end
  -- the host failed, and last at a write to the output; at every other end it did not fail
  pub output_fault : end ≡ OutputFailed → FailsToWrite before after
  pub no_fault : end ≢ OutputFailed → HasNoFault before after
  pub files_kept : after.files ≡ before.files
