-- The words of a run (this project's own).
use Rattle.std.specs.Prelude.{ℕ, Option, Some, None, List, [], ◌∷◌, codes}
use Rattle.std.specs.Option.{option_map_or}
use Rattle.os9_base.specs.declared.registers.TimePacket.{TimePacket}
use Rattle.text_values.specs.Number.{number_of, within}
use Rattle.option_reader.specs.Given.{Given, only_argument, value_of}
use Rattle.os9_words.specs.Times.{time_of}
use Rattle.os9_words.specs.declared.command.RunWords.{RunWords}

-- the options of `run`
abbrev pub run_options : List (List ℕ)
run_options = codes "slices" ∷ codes "script" ∷ codes "blocks" ∷ codes "time" ∷ []

-- the number of blocks: 64 without `--blocks`, and N with `--blocks N`, from 8 to 256
abbrev pub blocks_of : Given → Option ℕ
blocks_of words =
    option_map_or (λ number. within 8 256 (number_of number)) (value_of words (codes "blocks")) (Some 64)

-- a run of this file of modules, with or without a script, with these slices and blocks, and this start; defined if
-- files of modules and of slices, a number of blocks and a time are given
abbrev pub run_words_with : (modules script slices : Option (List ℕ)) (blocks : Option ℕ) (start : Option TimePacket)
    → Option RunWords
run_words_with (Some modules) script (Some slices) (Some blocks) (Some start) =
    Some (record {
      files = modules ∷ [];
      script = script;
      slices = slices;
      blocks = blocks;
      start = start;
      history = None;
    })
run_words_with _ _ _ _ _ = None

-- `MODULES --slices SLICES`, optionally with `--script SCRIPT`, `--blocks N` and `--time T`
abbrev pub run_words_of : Given → Option RunWords
run_words_of words =
    run_words_with (only_argument words) (value_of words (codes "script")) (value_of words (codes "slices"))
    (blocks_of words) (time_of words)
