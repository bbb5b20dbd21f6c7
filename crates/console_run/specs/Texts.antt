-- The texts of a session: a script and a slice text (this project's own).
use Rattle.std.specs.Prelude.{◌≡◌, ℕ, ◌+◌, ◌/◌, ◌%◌, ◌<◌, ◌&&◌, Bool, All, Ok, List, [], ◌∷◌, ◌++◌, length, nat_eq, nat_le, nat_lt, codes, decimal, if◌then◌else◌}
use Rattle.std.specs.List.{flat_map}
use Rattle.script_text.specs.Script.{AreKeys, keys_of}
use Rattle.script_text.specs.Slices.{AreSlices, slices_of}
use Rattle.console_run.specs.Typed.{kept_keys, kept_slices, part_bytes}
use Rattle.console_run.specs.declared.typed.Typed.{Typed}
use Rattle.console_run.specs.declared.typed.TypedPart.{TypedPart}
use Rattle.console_run.specs.declared.typed.TheConstants.{SLICE}

-- a session that is not too long for texts: a script can give its keys, and a slice text its slices
pub record FitsTexts (typed : Typed) : Type 0 where
  pub keys : AreKeys 4 (kept_keys typed)
  pub slices : AreSlices (kept_slices typed)

-- the texts give the keys and the slices of a session, to a machine with four terminals
pub record GiveSession (typed : Typed) (script slice_list : List ℕ) : Type 0 where
  pub keys : keys_of 4 script ≡ Ok (kept_keys typed)
  pub slices : slices_of slice_list ≡ Ok (kept_slices typed)

-- A part fits after others, in a script with room for this number of keys, whose last key is due in this tick: its
-- keys have room, and its tick is not before that one, and not too late.
abbrev pub line_fits : TypedPart → ℕ → ℕ → Bool
line_fits part room last =
    nat_lt (length part.bytes.items) room && (nat_le last part.tick && nat_le part.tick 1000000)

-- a number of 8 bits
abbrev pub IsByte : ℕ → Type 0
IsByte byte = byte < 256

-- each byte of the part is one
abbrev pub HasTypedBytes : TypedPart → Type 0
HasTypedBytes part = All IsByte (part_bytes part)

-- a hexadecimal digit
abbrev pub hex_digit : ℕ → ℕ
hex_digit value = if nat_lt value 10 then 48 + value else 55 + value

-- a space, and a byte in two digits
abbrev pub byte_word : ℕ → List ℕ
byte_word byte = 32 ∷ hex_digit (byte / 16) ∷ hex_digit (byte % 16) ∷ []

-- the line of a script for a part: its tick, the terminal and its bytes
abbrev pub script_line : TypedPart → List ℕ
script_line part =
    decimal part.tick ++ codes " TERM" ++ flat_map byte_word (part_bytes part) ++ 10 ∷ []

abbrev pub script_text : Typed → List ℕ
script_text typed = flat_map script_line typed.parts.items

-- one word for all slices; an empty text for no slices
abbrev pub slice_text : Typed → List ℕ
slice_text typed =
    if nat_eq typed.slices 0 then [] else decimal SLICE ++ codes "*" ++ decimal typed.slices ++ 10 ∷ []
