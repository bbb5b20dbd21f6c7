-- Terminals that are loaded with the keys of a script (this project's own).
use Rattle.std.specs.Prelude.{◌≡◌, ℕ, ◌<◌, ◌≤◌, ◌==◌, suc, All, List, [], ◌∷◌, ◌++◌, length, map, filter, take, drop}
use Rattle.os9_outer.specs.declared.terminal.Key.{Key}
use Rattle.os9_outer.specs.TerminalState.{TerminalState}
use Rattle.script_text.specs.declared.script.ScriptKey.{ScriptKey}

-- the keys of the terminal of this number, in their order
abbrev pub keys_for : ℕ → List ScriptKey → List Key
keys_for number keys =
    map (λ key. record { tick = key.tick; byte = key.byte }) (filter (λ key. key.term == number) keys)

-- a terminal with these keys left
abbrev pub with_keys : List Key → TerminalState → TerminalState
with_keys keys terminal = record terminal { keys = keys }

-- no key is left
abbrev pub HasNoKeys : TerminalState → Type 0
HasNoKeys terminal = terminal.keys ≡ []

-- the terminal was loaded with these keys
abbrev pub AreKeysLoaded : List Key → TerminalState → TerminalState → Type 0
AreKeysLoaded keys old new = new ≡ with_keys keys old

-- terminals from this number on, each with the keys of its number
abbrev pub loaded_from : ℕ → List ScriptKey → List TerminalState → List TerminalState
loaded_from number keys [] = []
loaded_from number keys (terminal ∷ terminals) =
    with_keys (keys_for number keys) terminal ∷ loaded_from (suc number) keys terminals

-- the terminals of a machine, each with the keys of its number: TERM has 0
abbrev pub loaded : List ScriptKey → List TerminalState → List TerminalState
loaded keys terminals = loaded_from 0 keys terminals

-- the terminals from this number on were loaded, and no other
abbrev pub LoadsTerminalsFrom : ℕ → List ScriptKey → List TerminalState → List TerminalState → Type 0
LoadsTerminalsFrom number keys before now =
    now ≡ take number before ++ loaded_from number keys (drop number before)

-- the terminals of a machine before its run: one to four, without keys
pub record AreUnloaded (terminals : List TerminalState) : Type 0 where
  pub some : 0 < length terminals
  pub few : length terminals ≤ 4
  pub unloaded : All HasNoKeys terminals
