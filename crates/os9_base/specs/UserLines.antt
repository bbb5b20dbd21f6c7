-- A line that a program gives by its address (System Programmer's Manual, I$WritLn). Its bytes are read one by one.
use Rattle.std.specs.Prelude.{ℕ, zero, suc, ◌+◌, ◌==◌, Option, Some, None, option_map, List, [], ◌∷◌, if◌then◌else◌}
use Rattle.os9_base.specs.Cells.{Cells}
use Rattle.os9_base.specs.UserNames.{user_cell}

abbrev pub line_with : (ℕ → Option (List ℕ)) → ℕ → Option ℕ → Option (List ℕ)
line_with rest at None = None
line_with rest at (Some byte) = if byte == 13 then Some (byte ∷ [])
    else option_map (λ line. byte ∷ line) (rest (at + 1))

-- the bytes from an address on, up to and with the first carriage return, but at most this many; None if one of them is
-- in no named slot or past FFFF
abbrev pub line_at : Cells → ℕ → ℕ → Option (List ℕ)
line_at cells at zero = Some []
line_at cells at (suc most) = line_with (λ next. line_at cells next most) at (user_cell cells at)
