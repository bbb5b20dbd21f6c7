-- The command that `clap` gets, and what its matches give.
use Rattle.std.specs.Prelude.{ℕ, ◌<◌, Some, List, [], ◌∷◌, map, length, take, unwrap_or, bytes_eq, if◌then◌else◌, true}
use Rattle.std.specs.List.{flat_map}
use Rattle.clap.specs.Words.{App, Row, Rule, all_of, new_app, new_rule}
use Rattle.clap.specs.declared.builder.action.ArgAction.TheVariants.{Append, Set}
use Rattle.clap.specs.declared.builder.value_parser.ValueParser.TheVariants.{NonEmptyString}
use Rattle.option_reader.specs.Given.{Given, GivenOption}

-- the rule of the arguments, whose id is not the name of an option
abbrev pub arguments_rule : Rule
arguments_rule = record (new_rule []) { action = Some Append }

-- an option that occurs at most once, and whose value is not empty
abbrev pub option_rule : List ℕ → Rule
option_rule name =
    record (new_rule name) { long = Some name; action = Some Set; parser = Some NonEmptyString }

-- the command with an option of each of these names
abbrev pub app_with : List (List ℕ) → App
app_with names = record (new_app []) {
  top = record (new_app []).top {
    rules = arguments_rule ∷ map option_rule names;
    no_binary_name = true;
    disable_help_flag = true;
  };
}

-- the option of a row of the matches: none if the row is that of the arguments
abbrev pub option_of : Row → List GivenOption
option_of row =
    if bytes_eq row.id [] then [] else map (λ value. record { name = row.id; value = value }) (take 1 row.values)

-- what the rows give
abbrev pub given_of : List Row → Given
given_of rows = record { options = flat_map option_of rows; arguments = unwrap_or (all_of [] rows) [] }

-- a row has a value
abbrev pub HasOptionValue : Row → Type 0
HasOptionValue row = 0 < length row.values
