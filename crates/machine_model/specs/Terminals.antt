-- How the terminals may change along a run.
use Rattle.std.specs.Prelude.{◌≡◌, ◌≤◌, is_some, List, ◌++◌}
use Rattle.std.specs.List.{AllZip}
use Rattle.os9_outer.specs.declared.terminal.Key.{Key}
use Rattle.os9_outer.specs.TerminalState.{TerminalState}

-- a terminal has only gained
pub record OnlyGains (old new : TerminalState) : Type 0 where
  pub keys : (used : List Key) × (old.keys ≡ used ++ new.keys)  -- the keys to come are the last of those before
  pub faults : old.faults ≤ new.faults  -- its count of faults did not fall
  pub observed : is_some new.put ≡ is_some old.put  -- its bytes are observed exactly if they were

-- the number of terminals is the same, and each has only gained
abbrev pub TerminalsOnlyGain : List TerminalState → List TerminalState → Type 0
TerminalsOnlyGain before now = AllZip OnlyGains before now
