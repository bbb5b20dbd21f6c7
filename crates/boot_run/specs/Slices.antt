-- What is left after slices were run.
use Rattle.std.specs.Prelude.{◌≡◌, ◌≢◌, ◌⊎◌, ◌++◌, ℕ, true, Option, Some, Result, List, [], take, slice_get, OnOk, OnErr, All}
use Rattle.os9_outer.specs.Stream.{stream_with, GainsPrefix}
use Rattle.machine_model.specs.Console.{console_bytes}
use Rattle.machine_model.specs.declared.ends.SliceEnd.{SliceEnd}
use Rattle.machine_model.specs.Run.{BeginsSlice, Run, Slice}
use Rattle.machine_model.specs.State.{State, has_living}
use Rattle.os9_kernel.specs.Calls.{StopsSlice}
use Rattle.os9_kernel.specs.Changes.{KeepsImages}
use Rattle.os9_kernel.specs.Tie.{Represents}
use Rattle.os9_kernel.specs.Volumes.{HoldsVolumes}
use Rattle.os9_kernel.specs.declared.kernel.Kernel.{Kernel}
use Rattle.boot_run.specs.Console.{IsObserved, emptied_front}
use Rattle.boot_run.specs.RunFault.{OnOutputFault, UnlessOutputFault}
use Rattle.boot_run.specs.World.{World, HasNoFault, FailsToWrite}
use Rattle.boot_run.specs.declared.run.RunFault.{RunFault}

-- over these slices the machine goes from one state, through these states, to one in the middle of a slice
pub record ComesInto (slices : List ℕ) (s : State) (states : List State) (t : State) : Type 0 where
  pub count : ℕ  -- the number of slices that are over
  pub passed : List State  -- the states after their events
  pub written : List ℕ
  pub reached : State
  pub run : Run (take count slices) s passed written reached
  pub n : ℕ  -- the instructions of the slice
  pub next : slice_get slices count ≡ Some n
  pub lives : has_living reached ≡ true
  pub first : List State
  pub begins : BeginsSlice n reached first t
  pub all : states ≡ passed ++ first

-- A slice that wrote something was run from this state, and the write of it failed or found no memory: the earlier
-- output is followed by the first bytes of that, all, some or none. The bytes of a number of terminals were taken,
-- everything else of the devices is as the slice left it, and the drives hold the volumes of the state then.
pub record BreaksOutput (n : ℕ) (s : State) (out : Option (List ℕ)) (after : World) : Type 0 where
  pub states : List State
  pub end : SliceEnd
  pub t : State
  pub slice : Slice n s states end t
  pub some : console_bytes t.terms ≢ []
  pub output : GainsPrefix out (console_bytes t.terms) after.out
  pub taken : ℕ
  pub terminals : after.devices.terms ≡ emptied_front taken t.terms
  pub drives : HoldsVolumes t after.devices.drives

-- The machine went on from this state over the first of these slices, and stopped.
pub record RunsPartly (slices : List ℕ) (s : State) (before after : World) : Type 0 where
  pub count : ℕ  -- the number of slices run, whose output was written
  pub states : List State  -- the states after their events
  pub written : List ℕ  -- what they wrote
  pub reached : State  -- the state after them
  pub run : Run (take count slices) s states written reached
  pub n : ℕ  -- the instructions of the next slice
  pub next : slice_get slices count ≡ Some n
  pub lives : has_living reached ≡ true
  -- memory was out within it, and the host did not fail; or the write of what it wrote failed
  pub stopped : (StopsSlice n reached after.devices × (after.out ≡ stream_with before.out written)
      × HasNoFault before after)
      ⊎ BreaksOutput n reached (stream_with before.out written) after

pub record RunsSlices {Value : Type 0} (slices : List ℕ) (old new : Kernel) (answer : Result Value RunFault)
    (before after : World) : Type 0 where
  -- Ok: from each state that was represented there is a run over the slices to one that is represented now, the output
  -- gained what it writes, and the images that no event asks to change are unchanged
  pub run : OnOk answer ((s : State) → All IsObserved before.devices.terms → Represents old before.devices s
      → (states : List State) × (written : List ℕ) × (t : State) × Run slices s states written t
      × Represents new after.devices t × (after.out ≡ stream_with before.out written)
      × KeepsImages (ComesInto slices s) states before.devices.drives after.devices.drives)
  -- else there is a run over the first of them
  pub partial : OnErr answer ((s : State) → All IsObserved before.devices.terms
      → Represents old before.devices s → RunsPartly slices s before after)
  -- the host failed last at the output, or not at all
  pub output_fault : OnOutputFault answer (FailsToWrite before after)
  pub no_fault : UnlessOutputFault answer (HasNoFault before after)
  pub files_kept : after.files ≡ before.files
