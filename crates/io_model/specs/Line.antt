-- Lines, as the line calls move them: up to and with the carriage return (Level Two manual, I$ReadLn and I$WritLn).
use Rattle.std.specs.Prelude.{ℕ, ◌+◌, ◌==◌, Bool, Option, is_some, List, [], ◌∷◌, ◌++◌, length, take, position, if◌then◌else◌}
use Rattle.std.specs.Option.{option_map_or}
use Rattle.io_model.specs.declared.keys.TheConstants.{RETURN, LINE_FEED}

-- the place of the first carriage return
abbrev pub return_place : List ℕ → Option ℕ
return_place bytes = position (λ byte. byte == RETURN) bytes

-- the bytes have a carriage return
abbrev pub has_return : List ℕ → Bool
has_return bytes = is_some (return_place bytes)

-- the length of the first line with its carriage return; all bytes if there is no carriage return
abbrev pub line_length : List ℕ → ℕ
line_length bytes = option_map_or (λ place. place + 1) (return_place bytes) (length bytes)

-- the first line, up to and with its carriage return; all bytes if there is no carriage return
abbrev pub first_line : List ℕ → List ℕ
first_line bytes = take (line_length bytes) bytes

-- what I$WritLn puts on a terminal: the first line, and a line feed after its carriage return
abbrev pub line_put : List ℕ → List ℕ
line_put bytes = first_line bytes ++ (if has_return bytes then LINE_FEED ∷ [] else [])
