-- The words of `asm` (this project's own).
use Rattle.std.specs.Prelude.{Option, Some, None, List, ℕ, [], slice_get}
use Rattle.option_reader.specs.Given.{Given}
use Rattle.os9_words.specs.declared.asm_words.AsmWords.{AsmWords}

-- `asm` has no options
abbrev pub asm_options : List (List ℕ)
asm_options = []

-- the words, if a source and a file for the module are given, and no more
abbrev pub asm_with : (source out more : Option (List ℕ)) → Option AsmWords
asm_with (Some source) (Some out) None = Some (record { source = source; out = out })
asm_with _ _ _ = None

-- `asm SOURCE OUT`
abbrev pub asm_of : Given → Option AsmWords
asm_of words =
    asm_with (slice_get words.arguments 0) (slice_get words.arguments 1) (slice_get words.arguments 2)
