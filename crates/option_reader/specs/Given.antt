-- What the words after a command give: options with their values, and arguments (this project's own).
use Rattle.std.specs.Prelude.{ℕ, ◌==◌, find, option_map, ◌&&◌, ◌||◌, not, nat_eq, bytes_eq, codes, Bool, false, Option, Some, None, List, [], ◌∷◌, ◌++◌, drop, if◌then◌else◌}
use Rattle.std.specs.List.{list_any, before_first, after_first, starts_with}

-- an option with its value
pub record GivenOption : Type 0 where
  pub name : List ℕ
  pub value : List ℕ

-- the options in the order of the words, each name once, and the arguments
pub record Given : Type 0 where
  pub options : List GivenOption
  pub arguments : List (List ℕ)

-- no option and no argument
abbrev pub nothing_given : Given
nothing_given = record { options = []; arguments = [] }

-- one option with its value, and these arguments
abbrev pub one_option : List ℕ → List ℕ → List (List ℕ) → Given
one_option name value arguments =
    record { options = record { name = name; value = value } ∷ []; arguments = arguments }

-- the word begins with `-`
abbrev pub is_dashed : List ℕ → Bool
is_dashed [] = false
is_dashed (byte ∷ bytes) = byte == 45

-- the word is an argument: it does not begin with `-`, or is `-` alone
abbrev pub is_argument : List ℕ → Bool
is_argument word = not (is_dashed word) || bytes_eq word (codes "-")

-- the word can be the value of the option before it: it is not empty and does not begin with `-`
abbrev pub is_value : List ℕ → Bool
is_value word = not (bytes_eq word []) && not (is_dashed word)

-- an equals sign
abbrev pub is_equals : ℕ → Bool
is_equals byte = byte == 61

-- the name of the option in a word `--name` or `--name=value`
abbrev pub option_name : List ℕ → List ℕ
option_name word = before_first is_equals (drop 2 word)

-- the element of a list with one element
abbrev pub only : {X : Type 0} → List X → Option X
only (x ∷ []) = Some x
only _ = None

-- the value of the option of this name
abbrev pub value_of : Given → List ℕ → Option (List ℕ)
value_of words name = option_map (λ option. option.value) (find (λ option. bytes_eq option.name name) words.options)

-- the argument, if there is exactly one
abbrev pub only_argument : Given → Option (List ℕ)
only_argument words = only words.arguments

-- an option of this name was given
abbrev pub is_given : Given → List ℕ → Bool
is_given so_far name = list_any (λ option. bytes_eq name option.name) so_far.options

-- the word is an option of these names that was not given before
abbrev pub is_new_option : List (List ℕ) → Given → List ℕ → Bool
is_new_option names so_far word =
    starts_with nat_eq word (codes "--") && list_any (bytes_eq (option_name word)) names
    && not (is_given so_far (option_name word))

-- the same with an option, and with arguments
abbrev pub with_option : Given → List ℕ → List ℕ → Given
with_option so_far name value =
    record so_far { options = so_far.options ++ record { name = name; value = value } ∷ [] }

abbrev pub with_arguments : Given → List (List ℕ) → Given
with_arguments so_far words = record so_far { arguments = so_far.arguments ++ words }

-- what the words give, if they are not refused. An option of these names is `--name value` or `--name=value`, occurs
-- at most once and has a value. After `--` every word is an argument. An option that waits for its value takes the
-- next word.
abbrev pub given : List (List ℕ) → Option (List ℕ) → List (List ℕ) → Given → Option Given
given names None [] so_far = Some so_far
given names (Some name) [] so_far = None
given names (Some name) (word ∷ words) so_far =
    if is_value word then given names None words (with_option so_far name word) else None
given names None (word ∷ words) so_far =
    if bytes_eq word (codes "--")
    then Some (with_arguments so_far words)
    else (if is_argument word
    then given names None words (with_arguments so_far (word ∷ []))
    else (if is_new_option names so_far word
    then (if list_any is_equals word
    then (if bytes_eq (after_first is_equals word) []
    then None
    else given names None words (with_option so_far (option_name word) (after_first is_equals word)))
    else given names (Some (option_name word)) words so_far)
    else None))

-- what all the words give
abbrev pub words_give : List (List ℕ) → List (List ℕ) → Option Given
words_give names words = given names None words nothing_given
