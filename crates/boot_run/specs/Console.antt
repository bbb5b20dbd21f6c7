-- The bytes that were put on terminals.
use Rattle.std.specs.Prelude.{◌≡◌, ℕ, IsSome, IfSome, List, ◌++◌, take, drop}
use Rattle.os9_outer.specs.TerminalState.{TerminalState}
use Rattle.machine_model.specs.Console.{terminals_emptied, without_bytes}

-- the bytes that were put on the terminal are observed
abbrev pub IsObserved : TerminalState → Type 0
IsObserved terminal = IsSome terminal.put

-- these bytes were taken from the terminal, which has no bytes any more
pub record TakesBytes (bytes : List ℕ) (old new : TerminalState) : Type 0 where
  pub handed_over : IfSome old.put (λ put. bytes ≡ put)
  pub none_left : new ≡ without_bytes old

-- the terminals after the bytes of the first `count` were taken
abbrev pub emptied_front : ℕ → List TerminalState → List TerminalState
emptied_front count terms = terminals_emptied (take count terms) ++ drop count terms
