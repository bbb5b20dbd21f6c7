-- Terminals whose keys are taken (this project's own).
use Rattle.std.specs.Prelude.{◌≡◌, ℕ, ◌<◌, ◌^◌, All, Some, Result, Ok, Err, List, [], slice_get, slice_set}
use Rattle.std.specs.List.{AllZip}
use Rattle.os9_base.specs.Count.{Rose}
use Rattle.os9_outer.specs.TerminalState.{TerminalState, fault_counts}
use Rattle.os9_outer.specs.declared.terminal.Key.{Key}
use Rattle.os9_outer.specs.declared.terminal.TermFault.{TermFault}
use Rattle.boot_run.specs.declared.keys.KeysFault.{KeysFault}

-- a key that a call can take: a tick has 32 bits
abbrev pub CanBeTaken : Key → Type 0
CanBeTaken key = key.tick < 2 ^ 32

-- the terminal has no keys left, if they could be taken
pub record LosesKeys (old new : TerminalState) : Type 0 where
  pub none : All CanBeTaken old.keys → new.keys ≡ []
  pub put : new.put ≡ old.put
  pub faults : new.faults ≡ old.faults

-- the keys of a terminal were taken, or it failed
abbrev pub DropsKeys : {Value : Type 0} → Result Value TermFault → TerminalState → TerminalState → Type 0
DropsKeys (Ok value) old new = LosesKeys old new
DropsKeys (Err fault) old new = Rose old.faults new.faults

-- the terminal of this number failed, and no other count of faults changed
pub record FailsAt (n : ℕ) (before after : List TerminalState) : Type 0 where
  pub old : ℕ
  pub new : ℕ
  pub is : slice_get (fault_counts before) n ≡ Some old
  pub rose : Rose old new
  pub counts : fault_counts after ≡ slice_set (fault_counts before) n new

-- no terminal has keys left, or this one failed
abbrev pub DropsAll : {Value : Type 0} → Result Value KeysFault → List TerminalState → List TerminalState → Type 0
DropsAll (Ok value) before after = AllZip LosesKeys before after
DropsAll (Err fault) before after = FailsAt fault.0 before after
