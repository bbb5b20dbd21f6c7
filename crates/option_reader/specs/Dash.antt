-- A word `-` in the place of an option's value (this project's own).
use Rattle.std.specs.Prelude.{ℕ, ◌&&◌, not, nat_eq, bytes_eq, codes, Bool, true, false, List, [], ◌∷◌, if◌then◌else◌}
use Rattle.std.specs.List.{list_any, starts_with}
use Rattle.option_reader.specs.Given.{is_equals}

-- the word is `--name`, so that its value is the next word
abbrev pub waits_for_value : List ℕ → Bool
waits_for_value word = starts_with nat_eq word (codes "--") && not (list_any is_equals word)

-- before the first word `--`, a word `-` is in the place of an option's value
abbrev pub has_dash_value : Bool → List (List ℕ) → Bool
has_dash_value waits [] = false
has_dash_value waits (word ∷ words) =
    if bytes_eq word (codes "--")
    then false
    else (if waits && bytes_eq word (codes "-") then true else has_dash_value (waits_for_value word) words)
