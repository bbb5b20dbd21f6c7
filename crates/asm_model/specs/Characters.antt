-- The characters of assembler texts, in ASCII (this project's own).
use Rattle.std.specs.Prelude.{ℕ, ◌==◌, ◌&&◌, ◌||◌, nat_le, Bool, List}
use Rattle.std.specs.Str.{str_eq_ignore_ascii_case}

-- a character allowed in a line: from a space to `~`
abbrev pub is_line_byte : ℕ → Bool
is_line_byte c = nat_le 32 c && nat_le c 126

abbrev pub is_line_feed : ℕ → Bool
is_line_feed c = c == 10

-- `"`
abbrev pub is_quote : ℕ → Bool
is_quote c = c == 34

-- `#`
abbrev pub is_hash : ℕ → Bool
is_hash c = c == 35

-- `$`
abbrev pub is_dollar : ℕ → Bool
is_dollar c = c == 36

-- `*`
abbrev pub is_star : ℕ → Bool
is_star c = c == 42

abbrev pub is_comma : ℕ → Bool
is_comma c = c == 44

abbrev pub is_minus : ℕ → Bool
is_minus c = c == 45

-- `+` and `-`
abbrev pub is_sign : ℕ → Bool
is_sign c = (c == 43) || is_minus c

-- `<`
abbrev pub is_less : ℕ → Bool
is_less c = c == 60

-- `>`
abbrev pub is_greater : ℕ → Bool
is_greater c = c == 62

-- `[`
abbrev pub is_opening : ℕ → Bool
is_opening c = c == 91

-- `]`
abbrev pub is_closing : ℕ → Bool
is_closing c = c == 93

-- words that are equal in any case of letters
abbrev pub same_word : List ℕ → List ℕ → Bool
same_word a b = str_eq_ignore_ascii_case a b
