-- How much of the output can be seen, and a count (this project's own).
use Rattle.std.specs.Prelude.{ℕ, ◌+◌, ◌-◌, ◌^◌, Option, Some, None, List, length, min}

-- how many bytes the output stream has, and 0 if it is not observed
abbrev pub shown_length : Option (List ℕ) → ℕ
shown_length None = 0
shown_length (Some bytes) = length bytes

-- one more than this count of 64 bits, which stops at its last value
abbrev pub counted : ℕ → ℕ
counted count = min (count + 1) (2 ^ 64 - 1)
