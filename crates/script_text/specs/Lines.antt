-- Texts of lines (this project's own).
use Rattle.std.specs.Prelude.{ℕ, ◌+◌, ◌==◌, ◌||◌, not, nat_eq, Bool, true, false, Option, Some, is_none, unwrap_or, option_map, option_and_then, position, filter, Result, Ok, Err, List, [], ◌∷◌, ◌++◌, length, take, drop, slice_index_or}
use Rattle.std.specs.List.{position_or_len, slice_split, starts_with, ends_with, flat_map, range_with_len}
use Rattle.std.specs.Option.{option_map_or}
use Rattle.text_values.specs.Cuts.{is_space}

-- the lines of a text: the parts between its line feeds; the part after the last line feed is a line too,
-- an empty one if the text ends there
abbrev pub text_lines : List ℕ → List (List ℕ)
text_lines text = slice_split (λ byte. byte == 10) text

-- a part between spaces is a word: it is not empty
abbrev pub is_word : List ℕ → Bool
is_word [] = false
is_word (byte ∷ bytes) = true

-- the words of a line: the nonempty parts between spaces
abbrev pub line_words : List ℕ → List (List ℕ)
line_words line = filter is_word (slice_split is_space line)

-- a space is before the first word of a line or after the last
abbrev pub is_edged : List ℕ → Bool
is_edged line = starts_with nat_eq line (32 ∷ []) || ends_with nat_eq line (32 ∷ [])

-- what words give, one after another; nothing if one of them is refused
abbrev pub all_given : {A : Type 0} → (List ℕ → Option (List A)) → List (List ℕ) → Option (List A)
all_given read [] = Some []
all_given read (word ∷ words) =
    option_and_then (λ first. option_map (λ rest. first ++ rest) (all_given read words)) (read word)

-- what lines give, one after another, without the refused lines
abbrev pub lines_give : {A : Type 0} → (List ℕ → Option (List A)) → List (List ℕ) → List A
lines_give read lines = flat_map (λ line. unwrap_or (read line) []) lines

-- the line at a place breaks a rule: it is refused by itself, or what the lines up to its end give is not allowed in
-- a text
abbrev pub is_broken : {A : Type 0} → (List ℕ → Option (List A)) → (List A → Bool) → List (List ℕ) → ℕ → Bool
is_broken read allowed lines place =
    is_none (read (slice_index_or lines place [])) || not (allowed (lines_give read (take (place + 1) lines)))

-- the place of the first line that breaks a rule, if one does
abbrev pub first_broken : {A : Type 0} → (List ℕ → Option (List A)) → (List A → Bool) → List (List ℕ) → Option ℕ
first_broken read allowed lines = position (is_broken read allowed lines) (range_with_len 0 (length lines))

-- what a text gives, or the number, from 1, of its first line that breaks a rule
abbrev pub text_gives : {A : Type 0} → (List ℕ → Option (List A)) → (List A → Bool) → List ℕ → Result (List A) ℕ
text_gives read allowed text =
    option_map_or (λ place. Err (place + 1)) (first_broken read allowed (text_lines text))
    (Ok (lines_give read (text_lines text)))
