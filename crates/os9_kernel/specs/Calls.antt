-- What the calls of a kernel leave; the devices are those before and after.
use Rattle.std.specs.Prelude.{◌≡◌, ◌≢◌, ◌⊎◌, ℕ, ◌+◌, Result, IsOk, IsErr, List}
use Rattle.os9_base.specs.declared.call.OutOfMemory.{OutOfMemory}
use Rattle.machine_model.specs.declared.ends.EventEnd.{EventEnd}
use Rattle.machine_model.specs.declared.ends.SliceEnd.{SliceEnd}
use Rattle.machine_model.specs.Event.{Event}
use Rattle.machine_model.specs.Run.{BeginsSlice, BreaksTick, Slice, Tick}
use Rattle.machine_model.specs.State.{State}
use Rattle.os9_kernel.specs.declared.kernel.Kernel.{Kernel}
use Rattle.os9_kernel.specs.Breaks.{BreaksEvent}
use Rattle.os9_kernel.specs.Causes.{ChosenWaitsInCall}
use Rattle.os9_kernel.specs.Changes.{KeepsImages, KeepsUnasked}
use Rattle.os9_kernel.specs.DriverCalls.{CallsWithin}
use Rattle.os9_kernel.specs.Outside.{Outside}
use Rattle.os9_kernel.specs.Tie.{Represents, IsGoing, ticks}
use Rattle.os9_kernel.specs.Volumes.{HoldsVolumes}

-- an event that was not done, since memory is out: it is broken off
abbrev pub BreaksOffEvent : Kernel → Outside → Outside → Type 0
BreaksOffEvent old before after = (s : State) → Represents old before s → BreaksEvent s after

-- a tick
pub record KernelTick (old new : Kernel) (before after : Outside) (result : Result (Unit {0}) OutOfMemory) : Type 0
  where
    -- it is one of the machine
    pub step : IsOk result → (s : State) → Represents old before s
        → (t : State) × Tick s t × Represents new after t
    -- memory is out: it is broken off, and the drives hold the volumes of the state
    pub broken : IsErr result → (s : State) → Represents old before s
        → BreaksTick s after.terms × HoldsVolumes s after.drives
    pub drives : after.drives ≡ before.drives
    pub count : ticks new ≡ ticks old + 1

-- an event
pub record KernelEvent (old new : Kernel) (before after : Outside) (end : EventEnd) : Type 0
  where
    -- it is one of the machine
    pub step : end ≢ EventEnd.NoMemory → (s : State) → Represents old before s
        → (t : State) × Event s end t × Represents new after t
    pub memory : end ≡ EventEnd.NoMemory → BreaksOffEvent old before after
    -- the chosen process still lives, if it goes on
    pub going : end ≡ EventEnd.Ran → IsGoing new
    pub waits : end ≡ EventEnd.Waits → ChosenWaitsInCall old new
    pub count : end ≢ EventEnd.NoMemory → ticks new ≡ ticks old
    -- it calls the drives within its bounds, and keeps the images that it does not ask to change, even if memory is out
    pub calls : CallsWithin old before after
    pub images : KeepsUnasked old before after

-- Memory is out in a slice of `n` instructions: its tick is broken off, and the drives hold the volumes of the state,
-- or the event after its first ones is broken off.
abbrev pub StopsSlice : ℕ → State → Outside → Type 0
StopsSlice n s after =
    (BreaksTick s after.terms × HoldsVolumes s after.drives)
    ⊎ ((states : List State) × (t : State) × BeginsSlice n s states t × BreaksEvent t after)

-- a slice of `n` instructions
pub record KernelSlice (n : ℕ) (old new : Kernel) (before after : Outside) (end : SliceEnd) : Type 0
  where
    -- it is one of the machine
    pub step : end ≢ SliceEnd.NoMemory → (s : State) → Represents old before s
        → (states : List State) × (t : State) × Slice n s states end t × Represents new after t
        × KeepsImages (BeginsSlice n s) states before.drives after.drives
    pub part : end ≡ SliceEnd.NoMemory → (s : State) → Represents old before s → StopsSlice n s after
    pub count : end ≢ SliceEnd.NoMemory → ticks new ≡ ticks old + 1
