-- Lines cut at their spaces (this project's own).
use Rattle.std.specs.Prelude.{ℕ, ◌==◌, not, Bool, List, take, drop}
use Rattle.std.specs.List.{position_or_len}

-- a space
abbrev pub is_space : ℕ → Bool
is_space byte = byte == 32

-- a line up to its first space, the whole line if it has none
abbrev pub first_word : List ℕ → List ℕ
first_word line = take (position_or_len is_space line) line

-- a line from its first space on
abbrev pub behind_word : List ℕ → List ℕ
behind_word line = drop (position_or_len is_space line) line

-- a line without its leading spaces
abbrev pub without_spaces : List ℕ → List ℕ
without_spaces line = drop (position_or_len (λ byte. not (is_space byte)) line) line
