-- How a date and time of 1900 to 2155 is spelled (this project's own).
use Rattle.std.specs.Prelude.{ℕ, ◌+◌, ◌/◌, ◌%◌, List, [], ◌∷◌, ◌++◌}
use Rattle.os9_base.specs.declared.registers.TimePacket.{TimePacket}
use Rattle.os9_clock.specs.TimeText.{dash, letter_t, colon}

-- the character of a decimal digit
abbrev pub digit : ℕ → ℕ
digit value = value + 48

-- a number in two decimal digits, and in four
abbrev pub two_digits : ℕ → List ℕ
two_digits number = digit (number / 10) ∷ digit (number % 10) ∷ []

abbrev pub four_digits : ℕ → List ℕ
four_digits number =
    digit (number / 1000) ∷ digit (number / 100 % 10) ∷ digit (number / 10 % 10) ∷ digit (number % 10) ∷ []

-- the date and time that a packet gives
abbrev pub spelled : TimePacket → List ℕ
spelled t =
    four_digits (1900 + t.year) ++ (dash ∷ [] ++ (two_digits t.month ++ (dash ∷ [] ++ (two_digits t.day
    ++ (letter_t ∷ [] ++ (two_digits t.hour ++ (colon ∷ [] ++ (two_digits t.minute ++ (colon ∷ []
    ++ two_digits t.second)))))))))
