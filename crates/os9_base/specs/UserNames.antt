-- A name that a program gives by its address (System Programmer's Manual, F$PrsNam). Its bytes are read one by one.
use Rattle.std.specs.Prelude.{ℕ, zero, suc, ◌+◌, ◌&&◌, nat_lt, Bool, Option, Some, None, option_map, Result, Ok, Err, List, [], ◌∷◌, if◌then◌else◌}
use Rattle.std.specs.Option.{option_map_or}
use Rattle.os9_base.specs.Cells.{Cells}
use Rattle.os9_base.specs.Name.{is_name_character, low_bits, parsed_name}
use Rattle.os9_base.specs.declared.name_fault.NameFault.{NameFault}
use Rattle.os9_base.specs.declared.name_fault.NameFault.TheVariants.{Unreadable, NoName}

-- the byte at an address that a call may use: its addresses do not wrap around
abbrev pub user_cell : Cells → ℕ → Option ℕ
user_cell cells at = if nat_lt at 65536 then cells at else None

-- a run of name characters goes on after this byte: it is one of them, without bit 7
abbrev pub goes_on : ℕ → Bool
goes_on byte = is_name_character (low_bits byte) && nat_lt byte 128

abbrev pub run_with : (ℕ → Option (List ℕ)) → ℕ → Option ℕ → Option (List ℕ)
run_with rest at None = None
run_with rest at (Some byte) = if goes_on byte then option_map (λ run. byte ∷ run) (rest (at + 1)) else Some (byte ∷ [])

-- the bytes that are read of a run from an address on, up to and with the first one after which it does not go on, but
-- at most this many; nothing if one of them is in no named slot or past FFFF
abbrev pub run_bytes : Cells → ℕ → ℕ → Option (List ℕ)
run_bytes cells at zero = Some []
run_bytes cells at (suc most) = run_with (λ next. run_bytes cells next most) at (user_cell cells at)

-- the name that these bytes give, if they give one
abbrev pub name_in : List ℕ → Result (List ℕ) NameFault
name_in bytes = option_map_or Ok (parsed_name bytes) (Err NoName)

-- the name at an address; at most 30 bytes of its run are read, and a run of 30 characters is not a name
abbrev pub name_at : Cells → ℕ → Result (List ℕ) NameFault
name_at cells at = option_map_or name_in (run_bytes cells at 30) (Err Unreadable)
