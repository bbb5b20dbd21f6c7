-- Unfinished sessions, and the effect of loaded keys on states.
use Rattle.std.specs.Prelude.{ℕ, List, ◌++◌, map}
use Rattle.machine_model.specs.State.{State}
use Rattle.run_laws.specs.Session.{AreLater, Keys, Session, SessionTurn, script, with_keys}

-- each of these states, with these keys after those of its terminals
abbrev pub each_with : Keys → List State → List State
each_with keys states = map (λ s. with_keys s keys) states

-- A session has reached m: from s over these turns, through these states, and what it wrote was taken. Every session
-- from m with keys that are due in later ticks continues it.
abbrev pub SessionSoFar : List SessionTurn → State → List State → List ℕ → State → Type 0
SessionSoFar turns s states written m =
    (more : List SessionTurn) (later : List State) (rest : List ℕ) (t : State) → AreLater m.processes.tick (script more)
    → Session more m later rest t → Session (turns ++ more) s (states ++ later) (written ++ rest) t
