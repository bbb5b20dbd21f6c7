-- The piece that was not written leaves a prefix of the text.
use Rattle.std.proofs.Common.{[], arith, rules}
use Rattle.std.proofs.lemmas.Grind.{common_steps}
use Rattle.os9_words.proofs.PieceLemmas.{GainsPrefix-piece, GainsPrefix-whole}
use Rattle.os9_words.proofs.pieces.report_pieces.Goals as goal

pub returns-in_err-err : goal.returns-in_err-err
returns-in_err-err g c = record {
  whole = search rules;
  prefix = GainsPrefix-piece _ c.args.pieces.now c.loop-piece.piece-index (record { ref_ptr = (0, 0); now = [] }) _ _ c.loop-piece-test.true c.loop-piece.invariant.gained c.err.ensures.prefix_gained;
  fault_counted = search rules;
  count_kept = search rules;
  others = search rules;
}

pub returns : goal.returns
returns g c = record {
  whole = grind (arith, common_steps);
  prefix = GainsPrefix-whole _ _ _ (grind (arith, common_steps));
  fault_counted = search rules;
  count_kept = search rules;
  others = search rules;
}
