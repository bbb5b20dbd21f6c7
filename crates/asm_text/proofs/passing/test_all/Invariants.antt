-- The bytes that are left complete the test, whatever sign the term that has begun has.
use Rattle.std.proofs.Common.{◌≡◌, ℕ, ◌≤◌, ◌-◌, take, drop, [], true}
use Rattle.asm_text.proofs.Folds.{fold_from}
use Rattle.asm_text.proofs.Tests.{test_step}
use Rattle.asm_text.proofs.passing.test_all.Given as goal

abbrev pub invariant-loop-i : goal.invariant-loop-i
invariant-loop-i g l = record {
  rest : (s : ℕ) → fold_from (test_step (g.T.TermTest.passes l.passes)) l.is_passed s (take (l.i - l.start) (drop l.start l.text)) (drop l.i l.text)
      ≡ fold_from (test_step (g.T.TermTest.passes l.passes)) true s [] l.text;
  begun : l.start ≤ l.i;
}
