-- A kernel in the course of its run.
use Rattle.std.specs.Prelude.{◌≡◌, ◌⊎◌, ℕ, ◌-◌, ◌<◌, ◌≤◌, List, ◌++◌, length, drop}
use Rattle.os9_base.specs.declared.limits.TheConstants.{LAST_TICK, PROCESS_PLACES}
use Rattle.machine_model.specs.Console.{terminals_emptied}
use Rattle.machine_model.specs.Run.{Run, SliceEvents}
use Rattle.machine_model.specs.State.{State}
use Rattle.os9_kernel.specs.Outside.{Outside}
use Rattle.os9_kernel.specs.Tie.{IsGoing, Represents, RepresentsSomeState, executed, ticks}
use Rattle.os9_kernel.specs.View.{living_regs}
use Rattle.run_laws.specs.Faults.{HasNoVolumes, NoneFailed}
use Rattle.os9_debug.specs.Course.{Course, state_at}
use Rattle.os9_debug.specs.Show.{shown}
use Rattle.os9_debug.specs.declared.position.Position.{Position}

-- ---- what is left of a run

-- between two slices: the run over the remaining slices
abbrev pub Continues : List ℕ → State → List State → State → Type 0
Continues slices s states last = (written : List ℕ) × Run slices s states written last

-- in a slice with `left` instructions left: its events, and the run over the slices after it
pub record ContinuesIn (left : ℕ) (slices : List ℕ) (s : State) (states : List State) (last : State) : Type 0 where
  pub some : 0 < left
  pub first : List State
  pub m : State
  pub steps : SliceEvents left s first m
  pub later : List State
  pub rest : Continues slices (record m { terms = terminals_emptied m.terms }) later last
  pub all : states ≡ first ++ later

-- the remaining slices
abbrev pub slices_left : List ℕ → Position → List ℕ
slices_left slices position = drop (ticks position.kernel) slices

-- in a slice, or between two
abbrev pub Remains : List ℕ → Position → State → List State → State → Type 0
Remains slices position s states last =
    ((position.slice ≡ 0) × Continues (slices_left slices position) s states last)
    ⊎ ContinuesIn (position.slice - executed position.kernel) (slices_left slices position) s states last

-- ---- a position

-- in both states every process has the same registers, or has ended, and the memory is the same
pub record LooksAlike (s t : State) : Type 0 where
  pub memory : t.processes.memory ≡ s.processes.memory
  pub regs : (p : ℕ) → living_regs t.processes p ≡ living_regs s.processes p

-- The position is after a number of events of this course, with this last state: the kernel has reached it, and perhaps
-- slices in which no process is Ready.
pub record IsAt (course : Course) (last : State) (slices : List ℕ) (position : Position) (devices : Outside) : Type 0
  where
    pub s : State
    pub represents : Represents position.kernel devices s
    pub bare : HasNoVolumes s
    pub past : List State
    pub count : length past ≡ position.events
    pub later : List State
    pub all : course.states ≡ past ++ later
    pub rest : Remains slices position s later last
    pub faultless : NoneFailed s last
    pub looks : LooksAlike (state_at course position.events) s
    pub drives : s.files.drives ≡ course.start.files.drives
    pub process : position.process.0 ≡ shown (state_at course position.events)

-- a kernel that can go on over these slices
pub record CanGoOn (slices : List ℕ) (position : Position) (devices : Outside) : Type 0 where
  pub stands : RepresentsSomeState position.kernel devices
  pub begun : ticks position.kernel ≤ length slices
  pub few : length slices < LAST_TICK
  -- in a slice the chosen process lives and has instructions left
  pub going : 0 < position.slice → IsGoing position.kernel
  pub left : 0 < position.slice → executed position.kernel < position.slice
  pub numbered : position.process.0 < PROCESS_PLACES
