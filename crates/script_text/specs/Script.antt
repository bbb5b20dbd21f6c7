-- The script: which key arrives at which tick at which terminal (this project's own).
use Rattle.std.specs.Prelude.{◌≡◌, ◌≤◌, ◌<◌, ◌+◌, ◌-◌, ◌*◌, ◌==◌, ◌&&◌, nat_le, nat_lt, ℕ, Bool, true, All, Option, Some, None, option_map, option_and_then, position, Result, List, [], ◌∷◌, length, map, codes, if◌then◌else◌}
use Rattle.std.specs.Str.{bytes_eq}
use Rattle.text_values.specs.Number.{number_of, within, hex_digit}
use Rattle.script_text.specs.declared.script.ScriptKey.{ScriptKey}
use Rattle.script_text.specs.Lines.{line_words, is_edged, all_given, text_gives}

-- a line that is skipped: an empty one, and one that begins with `#`
abbrev pub is_skipped : List ℕ → Bool
is_skipped [] = true
is_skipped (byte ∷ bytes) = byte == 35

-- a tick: from 0 to 1,000,000
abbrev pub tick_of : List ℕ → Option ℕ
tick_of digits = within 0 1000000 (number_of digits)

-- the terminals' names, by number
abbrev pub terminal_names : List (List ℕ)
terminal_names = codes "TERM" ∷ codes "T1" ∷ codes "T2" ∷ codes "T3" ∷ []

-- the number of the terminal of this name, if it is below the number of terminals
abbrev pub terminal_of : ℕ → List ℕ → Option ℕ
terminal_of terminals name =
    option_and_then (λ number. if nat_lt number terminals then Some number else None)
    (position (bytes_eq name) terminal_names)

-- the byte that two hexadecimal digits spell
abbrev pub byte_of : List ℕ → Option ℕ
byte_of (high ∷ low ∷ []) = option_and_then (λ h. option_map (λ l. 16 * h + l) (hex_digit low)) (hex_digit high)
byte_of _ = None

-- the bytes that words spell, if each spells one
abbrev pub bytes_of : List (List ℕ) → Option (List ℕ)
bytes_of words = all_given (λ word. option_map (λ byte. byte ∷ []) (byte_of word)) words

-- the key with this byte
abbrev pub key_at : ℕ → ℕ → ℕ → ScriptKey
key_at tick term byte = record { term = term; tick = tick; byte = byte }

-- one or more keys with these bytes, at one tick at one terminal
abbrev pub keys_at : ℕ → ℕ → List ℕ → Option (List ScriptKey)
keys_at tick term [] = None
keys_at tick term (byte ∷ bytes) =
    Some (map (key_at tick term) (byte ∷ bytes))

-- the keys that words give: a tick, a terminal of the machine, and one or more bytes
abbrev pub words_keys : ℕ → List (List ℕ) → Option (List ScriptKey)
words_keys terminals (tick ∷ terminal ∷ bytes) =
    option_and_then
    (λ t. option_and_then (λ n. option_and_then (keys_at t n) (bytes_of bytes)) (terminal_of terminals terminal))
    (tick_of tick)
words_keys terminals _ = None

-- the keys that a line gives, for a machine with this number of terminals
abbrev pub line_keys : ℕ → List ℕ → Option (List ScriptKey)
line_keys terminals line =
    if is_skipped line then Some [] else (if is_edged line then None else words_keys terminals (line_words line))

-- the ticks of keys never fall
abbrev pub never_fall : List ScriptKey → Bool
never_fall [] = true
never_fall (key ∷ []) = true
never_fall (key ∷ next ∷ keys) = nat_le key.tick next.tick && never_fall (next ∷ keys)

-- the keys of a text: their ticks never fall, and there are at most 1,000,000
abbrev pub are_few_keys : List ScriptKey → Bool
are_few_keys keys = never_fall keys && nat_le (length keys) 1000000

-- the keys that the text gives a machine with this number of terminals, or its first line that breaks a rule
abbrev pub keys_of : ℕ → List ℕ → Result (List ScriptKey) ℕ
keys_of terminals text = text_gives (line_keys terminals) are_few_keys text

-- a key that a text can give a machine with this number of terminals
pub record IsScriptKey (terminals : ℕ) (key : ScriptKey) : Type 0 where
  pub there : key.term < terminals
  pub early : key.tick ≤ 1000000

-- keys that a text can give a machine with this number of terminals
pub record AreKeys (terminals : ℕ) (keys : List ScriptKey) : Type 0 where
  pub few : length keys ≤ 1000000
  pub each : All (IsScriptKey terminals) keys
  pub rising : never_fall keys ≡ true
