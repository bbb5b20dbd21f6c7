-- The words of `debug` (this project's own).
use Rattle.std.specs.Prelude.{ℕ, Option, Some, None, List, [], ◌∷◌, codes}
use Rattle.option_reader.specs.Given.{Given, value_of}
use Rattle.os9_words.specs.Run.{run_words_of}
use Rattle.os9_words.specs.declared.command.RunWords.{RunWords}
use Rattle.os9_words.specs.declared.debug_words.DebugWords.{DebugWords}

-- the options of `debug`
abbrev pub debug_options : List (List ℕ)
debug_options = codes "slices" ∷ codes "commands" ∷ codes "script" ∷ codes "blocks" ∷ codes "time" ∷ []

-- the words, if those of a run and a file of commands are given
abbrev pub debug_with : Option RunWords → (commands : Option (List ℕ)) → Option DebugWords
debug_with (Some run) (Some commands) = Some (record { run = run; commands = commands })
debug_with _ _ = None

-- `debug MODULES --slices SLICES --commands COMMANDS`, optionally with `--script SCRIPT`, `--blocks N` and `--time T`
abbrev pub debug_of : Given → Option DebugWords
debug_of words = debug_with (run_words_of words) (value_of words (codes "commands"))
