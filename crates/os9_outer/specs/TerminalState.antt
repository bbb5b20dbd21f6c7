-- What can be observed of the terminals of a machine, as lists that do not depend on the kind of their drivers.
use Rattle.std.specs.Prelude.{◌≡◌, ℕ, Option, Some, List, map, slice_get, slice_set}
use Rattle.os9_outer.specs.declared.terminal.CharDriver.{Ghosts}
use Rattle.os9_outer.specs.declared.terminal.Key.{Key}

-- the state of a terminal, as far as it can be observed
pub record TerminalState : Type 0 where
  pub keys : List Key  -- the keys not given yet
  pub put : Option (List ℕ)  -- the bytes put, if the terminal shows them
  pub faults : ℕ  -- the number of its faults

-- the state of a terminal, by its driver, whose ghost members are these
abbrev pub terminal_state : {Driver : Type 0} → Ghosts Driver → Driver → TerminalState
terminal_state members driver =
    record { keys = members.keys_left driver; put = members.bytes_put driver; faults = members.term_faults driver }

-- the number of faults of each terminal
abbrev pub fault_counts : List TerminalState → List ℕ
fault_counts terminals = map (λ terminal. terminal.faults) terminals

-- the terminal of this number changed in this way, and no other terminal changed
abbrev pub ChangesOneTerminal : (TerminalState → TerminalState → Type 0) → ℕ → List TerminalState → List TerminalState
    → Type 0
ChangesOneTerminal change n before now =
    (old : TerminalState) × (new : TerminalState) × (slice_get before n ≡ Some old) × (now ≡ slice_set before n new)
    × change old new
