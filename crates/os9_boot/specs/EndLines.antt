-- The line that says why a command ended.
use Rattle.std.specs.Prelude.{ℕ, List, [], unwrap_or}
use Rattle.std.specs.Option.{option_map_or}
use Rattle.os9_words.specs.declared.command.Command.{Command}
use Rattle.boot_run.specs.End.{named_by}
use Rattle.boot_run.specs.EndLines.{end_line as line_with}
use Rattle.boot_run.specs.declared.status.Input.{Input}
use Rattle.boot_run.specs.declared.status.End.{End}
use Rattle.os9_boot.specs.Meaning.{meaning}

-- this name as it is shown: nothing if there is none
abbrev pub shown_name : Command → Input → List ℕ
shown_name command input = unwrap_or ((meaning command).file_name input) []

-- the name of the file that the line of an end names
abbrev pub end_name : Command → End → List ℕ
end_name command end = option_map_or (shown_name command) (named_by end) []

-- the line that says why a command ended; no bytes if there is none
abbrev pub end_line : Command → End → List ℕ
end_line command end = line_with (end_name command end) end
