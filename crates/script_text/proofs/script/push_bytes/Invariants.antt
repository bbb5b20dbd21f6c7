-- The keys so far and those of the words that are left are those of all words.
use Rattle.std.proofs.Common.{◌≡◌, ◌++◌}
use Rattle.script_text.specs.Lines.{line_words}
use Rattle.script_text.proofs.KeyLemmas.{keys_left}
use Rattle.script_text.proofs.script.push_bytes.Given as goal

abbrev pub invariant-loop-word : goal.invariant-loop-word
invariant-loop-word l =
    l.keys.items ++ keys_left l.tick l.term (line_words l.word-iterator.line.now) ≡ l.initial.keys.items ++ keys_left l.tick l.term (line_words l.fn.line.bytes.line.now)
