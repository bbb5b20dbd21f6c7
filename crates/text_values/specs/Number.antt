-- Numbers in texts: one or more decimal digits, leading zeros allowed, of any length.
use Rattle.std.specs.Prelude.{ℕ, ◌+◌, ◌-◌, ◌*◌, nat_le, ◌&&◌, Bool, Option, Some, None, option_and_then, List, [], ◌∷◌, if◌then◌else◌}

-- a decimal digit
abbrev pub is_digit : ℕ → Bool
is_digit byte = nat_le 48 byte && nat_le byte 57

-- the number that these digits spell after digits of this value; nothing if a byte is not a digit
abbrev pub number_after : ℕ → List ℕ → Option ℕ
number_after value [] = Some value
number_after value (byte ∷ bytes) =
    if is_digit byte then number_after (10 * value + (byte - 48)) bytes else None

-- the number that the bytes spell, if they are one or more digits
abbrev pub number_of : List ℕ → Option ℕ
number_of [] = None
number_of (byte ∷ bytes) = number_after 0 (byte ∷ bytes)

-- the number, if it is in the range
abbrev pub within : ℕ → ℕ → Option ℕ → Option ℕ
within least most number =
    option_and_then (λ n. if nat_le least n && nat_le n most then Some n else None) number

-- the value of a hexadecimal digit of either case
abbrev pub hex_digit : ℕ → Option ℕ
hex_digit byte =
    if nat_le 48 byte && nat_le byte 57
    then Some (byte - 48)
    else (if nat_le 65 byte && nat_le byte 70
    then Some (byte - 65 + 10)
    else (if nat_le 97 byte && nat_le byte 102 then Some (byte - 97 + 10) else None))
