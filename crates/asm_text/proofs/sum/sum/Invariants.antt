-- The bytes that are left complete the value.
use Rattle.std.proofs.Common.{◌≡◌, ◌≤◌, ◌+◌, ◌*◌, ◌^◌, ◌-◌, take, drop, [], pos, neg_ℤ, ◌≤ℤ◌}
use Rattle.asm_text.proofs.Folds.{fold_from}
use Rattle.asm_text.proofs.Sums.{add_step}
use Rattle.asm_text.proofs.sum.sum.Given as goal

abbrev pub invariant-loop-i : goal.invariant-loop-i
invariant-loop-i g l = record {
  rest : fold_from (add_step (g.M.Meaning.meaning l.meaning)) l.value l.sign (take (l.i - l.start) (drop l.start l.text)) (drop l.i l.text)
      ≡ fold_from (add_step (g.M.Meaning.meaning l.meaning)) (pos 0) l.fn.sign [] l.text;
  begun : l.start ≤ l.i;
  low : neg_ℤ (pos (2 ^ 63 * l.i)) ≤ℤ l.value;
  high : l.value ≤ℤ pos (2 ^ 63 * l.i);
}
