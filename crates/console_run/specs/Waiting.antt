-- When something is typed, and when no slice can follow.
use Rattle.std.specs.Prelude.{◌≡◌, ◌⊎◌, ℕ, ◌+◌, ◌<◌, false, List, [], ◌∷◌}
use Rattle.os9_base.specs.declared.limits.TheConstants.{LAST_TICK, PROCESS_PLACES}
use Rattle.os9_outer.specs.TerminalState.{TerminalState}
use Rattle.os9_outer.specs.declared.terminal.Key.{Key}
use Rattle.machine_model.specs.declared.ends.SliceEnd.{SliceEnd}
use Rattle.machine_model.specs.State.{State, has_living}
use Rattle.os9_kernel.specs.View.{wakes_by_clock}

-- no process sleeps until a tick, or waits for a record for a limited number of ticks
abbrev pub NoneWakes : State → Type 0
NoneWakes s = (p : ℕ) → p < PROCESS_PLACES → wakes_by_clock s p ≡ false

-- the keys that TERM is to give
abbrev pub term_keys : List TerminalState → List Key
term_keys [] = []
term_keys (term ∷ terms) = term.keys

-- After a slice that ended so every process waits for keys: none was Ready in it, no tick ends what one waits for, and
-- TERM has no key left.
pub record WaitsForLine (end : SliceEnd) (s : State) : Type 0 where
  pub idle : end ≡ SliceEnd.Idle
  pub asleep : NoneWakes s
  pub none_left : term_keys s.terms ≡ []

-- no slice can follow: no process lives, or the last tick would be reached
abbrev pub IsRunOver : State → Type 0
IsRunOver s = (has_living s ≡ false) ⊎ (s.processes.tick + 1 ≡ LAST_TICK)
