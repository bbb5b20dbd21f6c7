-- What is pushed and what the words that are left give is what all words give.
use Rattle.std.proofs.Common.{◌≡◌, [], ◌++◌, unwrap_or}
use Rattle.std.specs.List.{flat_map}
use Rattle.script_text.specs.Lines.{line_words}
use Rattle.script_text.specs.Slices.{word_slices}
use Rattle.script_text.proofs.slices.push_line.Given as goal

abbrev pub invariant-loop-word : goal.invariant-loop-word
invariant-loop-word l =
    l.slices.items ++ flat_map (λ word. unwrap_or (word_slices word) []) (line_words l.word-iterator.line.now) ≡
    l.initial.slices.items ++ flat_map (λ word. unwrap_or (word_slices word) []) (line_words l.line)
