-- The words that are left bring the total to that of all words.
use Rattle.std.proofs.Common.{◌≡◌}
use Rattle.script_text.specs.Lines.{line_words}
use Rattle.script_text.specs.Totals.{IsWithinLimits}
use Rattle.script_text.proofs.TotalLemmas.{total_by_words}
use Rattle.script_text.proofs.slices.add_line.Given as goal

abbrev pub invariant-loop-word : goal.invariant-loop-word
invariant-loop-word l = record {
  total : total_by_words l.total (line_words l.word-iterator.line.now) ≡ total_by_words l.initial.total (line_words l.line);
  limits : IsWithinLimits l.total;
}
