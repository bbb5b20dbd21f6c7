-- What the keys of a text reach.
use Rattle.std.specs.Prelude.{◌≤◌, ◌+◌, ◌&&◌, nat_le, ℕ, Option, Some, None, option_and_then, List, [], ◌∷◌, length, if◌then◌else◌}
use Rattle.script_text.specs.declared.script.ScriptKey.{ScriptKey}
use Rattle.script_text.specs.declared.script.KeyLine.{KeyLine}
use Rattle.script_text.specs.declared.script.Reached.{Reached}
use Rattle.script_text.specs.Lines.{line_words}
use Rattle.script_text.specs.Script.{bytes_of, keys_at}

-- the keys of a line read up to its bytes
abbrev pub read_keys : Option KeyLine → Option (List ScriptKey)
read_keys None = None
read_keys (Some read) = option_and_then (keys_at read.tick read.term) (bytes_of (line_words read.bytes.line.now))

-- the number of bytes, if it is from 1 to the most
abbrev pub count_up_to : ℕ → Option (List ℕ) → Option ℕ
count_up_to most None = None
count_up_to most (Some []) = None
count_up_to most (Some (byte ∷ bytes)) =
    if nat_le (length (byte ∷ bytes)) most then Some (length (byte ∷ bytes)) else None

-- what is reached after the keys of a line, if they are not refused, their ticks do not fall and they are not too many
abbrev pub reached_with : Reached → Option (List ScriptKey) → Option Reached
reached_with reached None = None
reached_with reached (Some []) = Some reached
reached_with reached (Some (key ∷ keys)) =
    if nat_le reached.tick key.tick && nat_le (reached.keys + length (key ∷ keys)) 1000000
    then Some (record { tick = key.tick; keys = reached.keys + length (key ∷ keys) })
    else None

-- what a text can reach
pub record IsReachable (reached : Reached) : Type 0 where
  pub few : reached.keys ≤ 1000000
  pub early : reached.tick ≤ 1000000
