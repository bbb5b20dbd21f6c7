-- The words that are left bring the count to that of all words.
use Rattle.std.proofs.Common.{◌≡◌, ◌≤◌}
use Rattle.script_text.specs.Lines.{line_words}
use Rattle.script_text.specs.Script.{bytes_of}
use Rattle.script_text.proofs.KeyLemmas.{counted_with}
use Rattle.script_text.proofs.script.count_bytes.Given as goal

abbrev pub invariant-loop-word : goal.invariant-loop-word
invariant-loop-word l = record {
  count : counted_with l.count (bytes_of (line_words l.word-iterator.line.now)) ≡ counted_with 0 (bytes_of (line_words l.fn.words.line.now));
  within : l.count ≤ l.most;
}
