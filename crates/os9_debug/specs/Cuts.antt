-- Lines that are cut into words.
use Rattle.std.specs.Prelude.{ℕ, Option, Some, None, List, [], ◌∷◌}
use Rattle.os9_debug.specs.declared.command.Span.{Span}
use Rattle.os9_debug.specs.declared.cut.Cut.{Cut}
use Rattle.os9_debug.specs.Commands.{span_of}
use Rattle.script_text.specs.Lines.{line_words}

-- the words of a line that was cut after its first word, or of a line without words if it was not cut
abbrev pub cut_words : Option Cut → List (List ℕ)
cut_words None = []
cut_words (Some cut) = cut.word.now ∷ line_words cut.rest.now

-- what the only word gives, if there is one
abbrev pub of_only : {A : Type 0} → (List ℕ → Option A) → List (List ℕ) → Option A
of_only read (word ∷ []) = read word
of_only read _ = None

-- an address and a count, if the words are these two
abbrev pub span_in : List (List ℕ) → Option Span
span_in (address ∷ count ∷ []) = span_of address count
span_in _ = None
