-- Which words are a command line of the console (this project's own).
use Rattle.std.specs.Prelude.{ℕ, ◌+◌, ◌&&◌, ◌||◌, take, Option, Some, None, is_some, option_and_then, unwrap_or, Bool, List, [], ◌∷◌, ◌++◌, length, bytes_eq, codes, if◌then◌else◌}
use Rattle.std.specs.List.{list_any}
use Rattle.std.specs.Option.{option_map_or}
use Rattle.option_reader.specs.Given.{Given, value_of, words_give}
use Rattle.os9_words.specs.Command.{command_of, most_images}
use Rattle.os9_words.specs.declared.command.Command.{Command}
use Rattle.os9_words.specs.declared.command.Command.TheVariants.{Boot}
use Rattle.os9_words.specs.declared.command.RunWords.{RunWords}
use Rattle.os9_console.specs.declared.words.ConsoleWords.{ConsoleWords}

abbrev pub console_options : List (List ℕ)
console_options = codes "blocks" ∷ codes "time" ∷ codes "record" ∷ []

-- the name of a record; a session that is not recorded has one too, under which nothing is written
abbrev pub record_name : Given → List ℕ
record_name given = unwrap_or (value_of given (codes "record")) (codes "session")

-- an option with its value, if it has one
abbrev pub option_words : List ℕ → Option (List ℕ) → List (List ℕ)
option_words option value = option_map_or (λ value. (option ++ value) ∷ []) value []

-- The words of a boot over the record of a session: the script and the slices of the record, the blocks and the time
-- that are given, and after `--` its images, or too many of them.
abbrev pub replay_words : Given → List (List ℕ)
replay_words given =
    codes "boot" ∷ (codes "--script=" ++ record_name given ++ codes ".script")
    ∷ (codes "--slices=" ++ record_name given ++ codes ".slices")
    ∷ option_words (codes "--blocks=") (value_of given (codes "blocks"))
    ++ option_words (codes "--time=") (value_of given (codes "time"))
    ++ codes "--" ∷ take (most_images + 1) given.arguments

-- the names of the files of a record
abbrev pub record_names : RunWords → List (List ℕ)
record_names boot = unwrap_or boot.script [] ∷ boot.slices ∷ []

-- an image has this name
abbrev pub is_image : RunWords → List ℕ → Bool
is_image boot name = list_any (bytes_eq name) boot.files

-- a file of the record has the name of an image
abbrev pub overwrites : RunWords → Bool
overwrites boot = is_image boot (unwrap_or boot.script []) || is_image boot boot.slices

-- a session of this boot is recorded if a name was given, which is refused if an image would be overwritten
abbrev pub session_of : Given → Option Command → Option ConsoleWords
session_of given (Some (Boot boot)) =
    if is_some (value_of given (codes "record")) && overwrites boot
    then None
    else Some (record { boot = boot; recorded = is_some (value_of given (codes "record")) })
session_of given command = None

-- the command line that the words spell: that of a boot over the record of its session; nothing if there is no such
-- boot
abbrev pub console_of : List (List ℕ) → Option ConsoleWords
console_of words =
    option_and_then (λ given. session_of given (command_of (replay_words given))) (words_give console_options words)

-- how many drives it needs
abbrev pub drives_for : List (List ℕ) → ℕ
drives_for words = option_map_or (λ read. length read.boot.files) (console_of words) 0
