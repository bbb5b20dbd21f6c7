-- The positions of a debugger in one run of a machine (this project's own).
use Rattle.std.specs.Prelude.{ℕ, ◌-◌, min, List, ◌∷◌, length, slice_index_or}
use Rattle.machine_model.specs.State.{State}
use Rattle.os9_debug.specs.declared.command.Command.{Command}
use Rattle.os9_debug.specs.declared.command.Command.TheVariants.{To, Back, Regs, Mem, Dis}

-- a run from a state through the states after its events
pub record Course : Type 0 where
  pub start : State
  pub states : List State

-- the state after k events: the tick and the choice of a slice occur with the next event
abbrev pub state_at : Course → ℕ → State
state_at course k = slice_index_or (course.start ∷ course.states) k course.start

-- the position after the last event
abbrev pub last_of : Course → ℕ
last_of course = length course.states

-- the position after a command: not after the last event, and not before the first
abbrev pub position_after : Course → ℕ → Command → ℕ
position_after course at (To k) = min k (last_of course)
position_after course at (Back n) = at - n
position_after course at Regs = at
position_after course at (Mem span) = at
position_after course at (Dis span) = at
