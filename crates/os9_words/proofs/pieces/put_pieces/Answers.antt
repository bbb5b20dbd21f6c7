-- The piece that was not written leaves a prefix of the text.
use Rattle.std.proofs.Common.{[], arith, rules}
use Rattle.std.proofs.lemmas.Grind.{common_steps}
use Rattle.os9_words.proofs.PieceLemmas.{GainsPrefix-piece, GainsPrefix-whole}
use Rattle.os9_words.proofs.pieces.put_pieces.Goals as goal

pub returns-in_err-out : goal.returns-in_err-out
returns-in_err-out g c = record {
  whole = search rules;
  prefix = GainsPrefix-piece _ c.args.pieces.now c.loop-piece.piece-index (record { ref_ptr = (0, 0); now = [] }) _ _ c.loop-piece-test.true c.loop-piece.invariant.gained c.out.ensures.prefix_gained;
  fault_counted = search rules;
  fault_unnamed = search rules;
  fault_in_out = search rules;
  count_kept = search rules;
  name_kept = search rules;
  read_kept = search rules;
  files_kept = search rules;
  err_kept = search rules;
  err_count_kept = search rules;
  reads_kept = search rules;
  writes_kept = search rules;
}

pub returns : goal.returns
returns g c = record {
  whole = grind (arith, common_steps);
  prefix = GainsPrefix-whole _ _ _ (grind (arith, common_steps));
  fault_counted = search rules;
  fault_unnamed = search rules;
  fault_in_out = search rules;
  count_kept = search rules;
  name_kept = search rules;
  read_kept = search rules;
  files_kept = search rules;
  err_kept = search rules;
  err_count_kept = search rules;
  reads_kept = search rules;
  writes_kept = search rules;
}
