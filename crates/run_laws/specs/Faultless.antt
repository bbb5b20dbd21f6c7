-- The existence of events, slices and runs in which no device fails.
use Rattle.std.specs.Prelude.{ℕ, List}
use Rattle.file_rules.specs.Files.{KeepsDriveFaults}
use Rattle.machine_model.specs.declared.ends.EventEnd.{EventEnd}
use Rattle.machine_model.specs.declared.ends.SliceEnd.{SliceEnd}
use Rattle.machine_model.specs.Event.{Event}
use Rattle.machine_model.specs.Run.{Run, Slice}
use Rattle.machine_model.specs.State.{State}
use Rattle.run_laws.specs.Mounted.{CanGo}
use Rattle.run_laws.specs.Runs.{SameCounts}
use Rattle.run_laws.specs.InOrder.{AreInOrder}

-- a state with volumes in order, from which the machine goes on
pub record GoesOnWell (s : State) : Type 0 where
  pub can : CanGo s
  pub order : AreInOrder s.files

-- no device has failed: the terminals have the same counts of faults, and the drives are the same
pub record IsFaultless (s t : State) : Type 0 where
  pub terminals : SameCounts s t
  pub drives : KeepsDriveFaults s.files.drives t.files.drives

-- the state has an event in which no device fails
pub record HasFaultlessEvent (s : State) : Type 0 where
  pub end : EventEnd
  pub last : State
  pub event : Event s end last
  pub faultless : IsFaultless s last

-- and a slice of n instructions
pub record HasFaultlessSlice (n : ℕ) (s : State) : Type 0 where
  pub states : List State
  pub end : SliceEnd
  pub last : State
  pub slice : Slice n s states end last
  pub faultless : IsFaultless s last

-- and a run over these slices
pub record HasFaultlessRun (slices : List ℕ) (s : State) : Type 0 where
  pub states : List State
  pub written : List ℕ
  pub last : State
  pub run : Run slices s states written last
  pub faultless : IsFaultless s last
