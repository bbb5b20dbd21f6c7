-- The parts of an entry's line (this project's own).
use Rattle.std.specs.Prelude.{ℕ, List, [], ◌∷◌, ◌++◌}
use Rattle.std.specs.Fmt.{decimal}
use Rattle.lock_model.specs.declared.history.Entry.{Entry}
use Rattle.lock_model.specs.declared.lock.Range.{Range}
use Rattle.lock_model.specs.declared.place.FilePlace.{FilePlace}
use Rattle.lock_model.specs.Lines.{end_text, hex_digits, letter, spaced}

-- letter, process and system path, each with its space
abbrev pub subject_text : Entry → List ℕ
subject_text entry =
    spaced (letter entry.kind ∷ []) (spaced (decimal entry.process) (spaced (decimal entry.path) []))

-- the drive and the descriptor of a file, and a space
abbrev pub file_text : FilePlace → List ℕ
file_text file = spaced (decimal file.drive ++ 58 ∷ hex_digits 6 file.number) []

-- the start and the end of a range, each with its space
abbrev pub range_text : Range → List ℕ
range_text range = spaced (hex_digits 8 range.start) (spaced (end_text range.end) [])
