-- What the calls of a position leave; the devices are those before and after.
use Rattle.std.specs.Prelude.{◌≡◌, ℕ, ◌+◌, ◌<◌, ◌≤◌, true, Some, Result, Ok, OnOk, List, slice_get}
use Rattle.os9_base.specs.declared.call.OutOfMemory.{OutOfMemory}
use Rattle.machine_model.specs.State.{State, has_living}
use Rattle.os9_kernel.specs.Outside.{Outside}
use Rattle.os9_kernel.specs.Tie.{Represents, ticks}
use Rattle.os9_debug.specs.Course.{Course, last_of}
use Rattle.os9_debug.specs.Devices.{DevicesGain, Unfailed}
use Rattle.os9_debug.specs.Position.{CanGoOn, IsAt}
use Rattle.os9_debug.specs.declared.position.Position.{Position}
use Rattle.os9_debug.specs.declared.position.Step.{Step}
use Rattle.os9_debug.specs.declared.position.Step.TheVariants.{Event, End}

-- the position stays in each of its courses, if no device failed
abbrev pub StaysIn : List ℕ → Position → Position → Outside → Outside → Type 0
StaysIn slices old new before after =
    (course : Course) (last : State) → IsAt course last slices old before → Unfailed before after
    → IsAt course last slices new after

-- it is the last position of each of its courses
abbrev pub IsLastPosition : List ℕ → Position → Outside → Outside → Type 0
IsLastPosition slices old before after =
    (course : Course) (last : State) → IsAt course last slices old before → Unfailed before after
    → last_of course ≡ old.events

-- the position after k events was reached, or the last one, which is before it
pub record HasReachedEvent (k : ℕ) (slices : List ℕ) (old new : Position) (answer : Result Step OutOfMemory)
    (before after : Outside) : Type 0 where
  pub goes_on : OnOk answer (CanGoOn slices new after)
  pub gains : DevicesGain before after
  pub stays : OnOk answer (StaysIn slices old new before after)
  pub reached : answer ≡ Ok Event → new.events ≡ k
  pub short : answer ≡ Ok End → new.events < k
  pub end : answer ≡ Ok End → (course : Course) (last : State) → IsAt course last slices old before
      → Unfailed before after → last_of course ≡ new.events

-- ---- its parts

-- the next of these slices has n instructions, and a process lives that may have it
pub record HasNextSlice (n : ℕ) (slices : List ℕ) (position : Position) (devices : Outside) : Type 0 where
  pub next : slice_get slices (ticks position.kernel) ≡ Some n
  pub lives : (s : State) → Represents position.kernel devices s → has_living s ≡ true

-- a slice of n instructions was begun, if a process is Ready; else it is over
pub record HasBegun (n : ℕ) (old new : Position) (answer : Result Step OutOfMemory) (before after : Outside) : Type 0
  where
    pub goes_on : OnOk answer ((slices : List ℕ) → HasNextSlice n slices old before → CanGoOn slices old before
        → CanGoOn slices new after)
    pub gains : DevicesGain before after
    pub stays : OnOk answer ((slices : List ℕ) → HasNextSlice n slices old before
        → StaysIn slices old new before after)
    pub begun : answer ≡ Ok Event → 0 < new.slice
    pub idle : answer ≡ Ok End → new.slice ≡ 0
    pub tick : OnOk answer (ticks new.kernel ≡ ticks old.kernel + 1)
    pub events : OnOk answer (new.events ≡ old.events)

-- the next slices were begun, up to one in which a process is Ready, if there is one
pub record BeginsNextSlices (slices : List ℕ) (old new : Position) (answer : Result Step OutOfMemory)
    (before after : Outside)
    : Type 0 where
  pub goes_on : OnOk answer (CanGoOn slices new after)
  pub gains : DevicesGain before after
  pub stays : OnOk answer (StaysIn slices old new before after)
  pub begun : answer ≡ Ok Event → 0 < new.slice
  pub events : OnOk answer (new.events ≡ old.events)
  pub end : answer ≡ Ok End → IsLastPosition slices old before after

-- one or more events, up to event k
pub record HasEventsUpTo (k : ℕ) (old new : Position) (answer : Result (Unit {0}) OutOfMemory) (before after : Outside)
    : Type 0 where
  pub goes_on : OnOk answer ((slices : List ℕ) → CanGoOn slices old before → CanGoOn slices new after)
  pub gains : DevicesGain before after
  pub stays : OnOk answer ((slices : List ℕ) → StaysIn slices old new before after)
  pub more : OnOk answer (old.events < new.events)
  pub few : OnOk answer (new.events ≤ k)
