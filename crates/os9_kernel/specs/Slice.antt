-- Slices in pieces.
use Rattle.std.specs.Prelude.{◌≡◌, ◌≢◌, ◌⊎◌, ℕ, ◌+◌, List}
use Rattle.machine_model.specs.declared.ends.EventEnd.{EventEnd}
use Rattle.machine_model.specs.declared.ends.SliceEnd.{SliceEnd}
use Rattle.machine_model.specs.Event.{Event, cost}
use Rattle.machine_model.specs.Run.{SliceEvents, FirstSteps}
use Rattle.machine_model.specs.State.{State}
use Rattle.os9_kernel.specs.declared.kernel.Kernel.{Kernel}
use Rattle.os9_kernel.specs.Breaks.{BreaksEvent}
use Rattle.os9_kernel.specs.Changes.{KeepsImages}
use Rattle.os9_kernel.specs.Outside.{Outside}
use Rattle.os9_kernel.specs.Tie.{Represents, ticks}

-- A number of instructions one after another, each an event: all go on, except perhaps the last, which ends with `end`.
pub data Instructions : State → ℕ → EventEnd → State → Type 0 where
  last : {s t : State} {end : EventEnd} → cost s ≡ 1 → Event s end t → Instructions s 1 end t
  more : {count : ℕ} {s m t : State} {end : EventEnd} → cost s ≡ 1 → Event s EventEnd.Ran m
      → Instructions m count end t → Instructions s (count + 1) end t

-- a turn that executes `count` instructions: one other event, which executes none; or instructions alone
abbrev pub IsTurn : State → ℕ → EventEnd → State → Type 0
IsTurn s count end t = ((count ≡ 0) × (cost s ≡ 0) × Event s end t) ⊎ Instructions s count end t

-- the events of a slice with `left` instructions left
pub record KernelEvents (left : ℕ) (old new : Kernel) (before after : Outside) (end : SliceEnd) : Type 0
  where
    -- they are those of the machine
    pub step : end ≢ SliceEnd.NoMemory → (s : State) → Represents old before s
        → (states : List State) × (t : State) × SliceEvents left s states t × Represents new after t
        × KeepsImages (FirstSteps left s) states before.drives after.drives
    pub ran : end ≢ SliceEnd.NoMemory → end ≡ SliceEnd.Ran
    -- memory is out: the event after the first of them is broken off
    pub part : end ≡ SliceEnd.NoMemory → (s : State) → Represents old before s
        → (states : List State) × (t : State) × FirstSteps left s states t × BreaksEvent t after
    pub count : end ≢ SliceEnd.NoMemory → ticks new ≡ ticks old
