-- The history as a text (this project's own): one line per entry, of words separated by single spaces.
use Rattle.std.specs.Prelude.{ℕ, zero, suc, ◌+◌, ◌/◌, ◌%◌, nat_lt, Option, Some, None, List, [], ◌∷◌, ◌++◌, codes, if◌then◌else◌}
use Rattle.std.specs.List.{flat_map}
use Rattle.std.specs.Fmt.{decimal}
use Rattle.lock_model.specs.declared.history.Entry.{Entry}
use Rattle.lock_model.specs.declared.lock.EntryKind.{EntryKind}
use Rattle.lock_model.specs.declared.lock.EntryKind.TheVariants.{Get, Put, Drop}

-- a hexadecimal digit in lower case
abbrev pub hex_digit : ℕ → ℕ
hex_digit value = if nat_lt value 10 then 48 + value else 87 + value

-- the last `count` digits of a number in hexadecimal, with leading zeros
abbrev pub hex_digits : ℕ → ℕ → List ℕ
hex_digits zero number = []
hex_digits (suc count) number = hex_digits count (number / 16) ++ hex_digit (number % 16) ∷ []

-- `G`, `P` or `D`
abbrev pub letter : EntryKind → ℕ
letter Get = 71
letter Put = 80
letter Drop = 68

-- the first byte after a range; `--------` if it has no end
abbrev pub end_text : Option ℕ → List ℕ
end_text None = codes "--------"
end_text (Some end) = hex_digits 8 end

-- two digits for each byte; `-` for no bytes
abbrev pub bytes_text : List ℕ → List ℕ
bytes_text [] = codes "-"
bytes_text (byte ∷ bytes) = flat_map (hex_digits 2) (byte ∷ bytes)

-- a word, a space, and what follows
abbrev pub spaced : List ℕ → List ℕ → List ℕ
spaced word rest = word ++ 32 ∷ rest

-- letter, process, system path, drive and descriptor of the file, start and end of the range, bytes
abbrev pub entry_line : Entry → List ℕ
entry_line entry =
    spaced (letter entry.kind ∷ []) (spaced (decimal entry.process) (spaced (decimal entry.path)
    (spaced (decimal entry.file.drive ++ 58 ∷ hex_digits 6 entry.file.number)
    (spaced (hex_digits 8 entry.range.start) (spaced (end_text entry.range.end)
    (bytes_text entry.bytes ++ 10 ∷ []))))))

abbrev pub history_text : List Entry → List ℕ
history_text history = flat_map entry_line history
