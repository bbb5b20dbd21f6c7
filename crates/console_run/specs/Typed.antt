-- What is kept of a session: its keys and its slices (this project's own).
use Rattle.std.specs.Prelude.{◌≡◌, ℕ, List, [], ◌∷◌, ◌++◌, map, replicate}
use Rattle.std.specs.List.{flat_map}
use Rattle.script_text.specs.Script.{key_at}
use Rattle.script_text.specs.declared.script.ScriptKey.{ScriptKey}
use Rattle.console_run.specs.declared.typed.Typed.{Typed}
use Rattle.console_run.specs.declared.typed.TypedPart.{TypedPart}
use Rattle.console_run.specs.declared.typed.TheConstants.{SLICE}

-- the slices of a session
abbrev pub kept_slices : Typed → List ℕ
kept_slices typed = replicate typed.slices SLICE

-- the keys with these bytes at TERM, all due in this tick
abbrev pub keys_typed : ℕ → List ℕ → List ScriptKey
keys_typed tick bytes = map (key_at tick 0) bytes

-- the bytes that were typed together
abbrev pub part_bytes : TypedPart → List ℕ
part_bytes part = part.bytes.items ++ part.last ∷ []

-- the keys of parts, in their order
abbrev pub keys_of_parts : List TypedPart → List ScriptKey
keys_of_parts parts = flat_map (λ part. keys_typed part.tick (part_bytes part)) parts

-- the keys of a session
abbrev pub kept_keys : Typed → List ScriptKey
kept_keys typed = keys_of_parts typed.parts.items

-- and their bytes
abbrev pub kept_bytes : Typed → List ℕ
kept_bytes typed = map (λ (key : ScriptKey). key.byte) (kept_keys typed)

-- nothing was typed or run yet
pub record IsUntyped (typed : Typed) : Type 0 where
  pub parts : typed.parts.items ≡ []
  pub slices : typed.slices ≡ 0
