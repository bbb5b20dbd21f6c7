-- The list of slices: the number of instructions of each slice (this project's own).
use Rattle.std.specs.Prelude.{◌≤◌, ◌==◌, ◌&&◌, nat_le, ℕ, Bool, All, Option, Some, None, option_map, option_and_then, Result, List, [], ◌∷◌, length, drop, sum, replicate, if◌then◌else◌}
use Rattle.std.specs.List.{position_or_len, before_first}
use Rattle.text_values.specs.Number.{number_of, within}
use Rattle.script_text.specs.Lines.{line_words, is_edged, all_given, text_gives}

-- a number of the slice text: from 1 to 1,000,000
abbrev pub slice_number : List ℕ → Option ℕ
slice_number digits = within 1 1000000 (number_of digits)

-- an asterisk
abbrev pub is_asterisk : ℕ → Bool
is_asterisk byte = byte == 42

-- a word from its first asterisk on, or nothing
abbrev pub from_asterisk : List ℕ → List ℕ
from_asterisk word = drop (position_or_len is_asterisk word) word

-- the number of slices of a word, from its text from the first asterisk on
abbrev pub times_of : List ℕ → Option ℕ
times_of [] = Some 1
times_of (asterisk ∷ digits) = slice_number digits

-- the slices that a word gives: in the form `n` one slice of n instructions, and in the form `n*k` k of them
abbrev pub word_slices : List ℕ → Option (List ℕ)
word_slices word =
    option_and_then (λ n. option_map (λ k. replicate k n) (times_of (from_asterisk word)))
    (slice_number (before_first is_asterisk word))

-- the slices that a line gives; nothing if one of its words is refused, or a space is at one of its ends
abbrev pub line_slices : List ℕ → Option (List ℕ)
line_slices line = if is_edged line then None else all_given word_slices (line_words line)

-- a list of slices has at most 1,000,000 slices and 10,000,000 instructions
abbrev pub are_few_slices : List ℕ → Bool
are_few_slices slices = nat_le (length slices) 1000000 && nat_le (sum slices) 10000000

-- the slices that the text gives, or its first line that breaks a rule
abbrev pub slices_of : List ℕ → Result (List ℕ) ℕ
slices_of text = text_gives line_slices are_few_slices text

-- a number of instructions that a slice can have
pub record IsSlice (instructions : ℕ) : Type 0 where
  pub least : 1 ≤ instructions
  pub most : instructions ≤ 1000000

-- slices that a text can give
pub record AreSlices (slices : List ℕ) : Type 0 where
  pub few : length slices ≤ 1000000
  pub each : All IsSlice slices
  pub total : sum slices ≤ 10000000
