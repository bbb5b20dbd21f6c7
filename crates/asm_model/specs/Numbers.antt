-- Numbers in assembler texts (this project's own, in the manner of the usual assemblers of the 6809).
use Rattle.std.specs.Prelude.{ℕ, ◌+◌, ◌*◌, ◌/◌, ◌%◌, nat_le, nat_lt, Option, Some, None, option_and_then, List, [], ◌∷◌, ◌++◌, length, if◌then◌else◌}
use Rattle.text_values.specs.Number.{number_of, within, hex_digit}
use Rattle.asm_model.specs.Characters.{is_dollar}

-- ---- hexadecimal digits

-- the digit of a number below 16, in upper case
abbrev pub hex_character : ℕ → ℕ
hex_character n = if nat_lt n 10 then 48 + n else 55 + n

-- the number that hexadecimal digits spell after digits of this value
abbrev pub hex_after : ℕ → List ℕ → Option ℕ
hex_after value [] = Some value
hex_after value (c ∷ text) = option_and_then (λ digit. hex_after (16 * value + digit) text) (hex_digit c)

-- a byte in two digits, a word in four
abbrev pub two_digits : ℕ → List ℕ
two_digits n = hex_character (n / 16) ∷ hex_character (n % 16) ∷ []

abbrev pub four_digits : ℕ → List ℕ
four_digits n = two_digits (n / 256) ++ two_digits (n % 256)

-- ---- numbers

-- one to four hexadecimal digits
abbrev pub hexadecimal : List ℕ → Option ℕ
hexadecimal [] = None
hexadecimal (c ∷ text) = if nat_le (length text) 3 then hex_after 0 (c ∷ text) else None

-- the greatest number: a word of ones
abbrev pub greatest_number : ℕ
greatest_number = 65535

-- decimal digits up to the greatest number, or `$` and hexadecimal digits
abbrev pub number : List ℕ → Option ℕ
number [] = None
number (c ∷ text) = if is_dollar c then hexadecimal text else within 0 greatest_number (number_of (c ∷ text))
