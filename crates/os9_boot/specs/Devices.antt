-- The number of drives that the program needs (this project's own).
use Rattle.std.specs.Prelude.{ℕ, List}
use Rattle.std.specs.Option.{option_map_or}
use Rattle.os9_words.specs.declared.command.Command.{Command}
use Rattle.os9_words.specs.Command.{command_of}
use Rattle.os9_boot.specs.Meaning.{meaning}

abbrev pub drives_of : Command → ℕ
drives_of command = (meaning command).drives

-- the number that words need, which may not be a command
abbrev pub drives_for : List (List ℕ) → ℕ
drives_for words = option_map_or drives_of (command_of words) 0
