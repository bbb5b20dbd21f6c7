use Rattle.std.proofs.Common.{◌≡◌, ℕ, ◌+◌, ◌-◌, ◌∙◌, take, drop, get_or, length, sym, refl, arith, true, []}
use Rattle.asm_text.proofs.Folds.{fold_from-terms, sign-fold, sign-none, other-fold, last-fold, new-part, old-part}
use Rattle.asm_text.proofs.Tests.{test_step, tested-part, any-sign, fold-tests}
use Rattle.asm_text.proofs.passing.test_all.Goals.{then-is_sign+in_ok-is_passed, else-is_sign}
use Rattle.asm_text.proofs.passing.test_all.Goals as goal

pub returns-in_err-is_passed : goal.returns-in_err-is_passed
returns-in_err-is_passed g c =
    let p = g.T.TermTest.passes c.args.passes.now in
    λ sign. c.from_residual.ensures
    ∙ sign-none (test_step p) _ sign c.loop-i.start c.loop-i.i 0 c.args.text.now _ c.loop-i.invariant.begun c.loop-i-test.true (c.loop-i.invariant.rest sign) _ refl
    (sym c.is_sign.ensures ∙ c.if-is_sign.true) (sym (tested-part p c.loop-i.is_passed sign (take (c.loop-i.i - c.loop-i.start) (drop c.loop-i.start c.args.text.now)))
    ∙ sym c.test_part.ensures ∙ c.in_err-is_passed.was)
    ∙ fold_from-terms (test_step p) true sign c.args.text.now ∙ fold-tests p _

pub loop-i-preserved : goal.loop-i-preserved
loop-i-preserved g c =
    let p = g.T.TermTest.passes c.args.passes.now in
    elim c.if-is_sign.branch [
      | then-is_sign+in_ok-is_passed w ↦ record {
        rest = λ s. new-part (test_step p) _ _ s s c.if-is_sign.start c.loop-i.i c.args.text.now _ w.is_passed-is refl w.start-is
            (any-sign p w.in_ok-is_passed.is_passed s (get_or c.args.text.now c.loop-i.i 0) [] (drop (c.loop-i.i + 1) c.args.text.now)
            ∙ sign-fold (test_step p) _ s c.loop-i.start c.loop-i.i 0 c.args.text.now _ c.loop-i.invariant.begun c.loop-i-test.true (c.loop-i.invariant.rest s) _ refl
            (sym c.is_sign.ensures ∙ w.if-is_sign.true) _ (sym (tested-part p c.loop-i.is_passed s (take (c.loop-i.i - c.loop-i.start) (drop c.loop-i.start c.args.text.now)))
            ∙ sym w.test_part.ensures ∙ w.in_ok-is_passed.was));
        begun = omega arith;
      }
      | else-is_sign w ↦ record {
        rest = λ s. old-part (test_step p) _ _ s s c.if-is_sign.start _ c.loop-i.i c.args.text.now _ w.is_passed-is refl w.start-is
            (other-fold (test_step p) _ s c.loop-i.start c.loop-i.i 0 c.args.text.now _ c.loop-i.invariant.begun c.loop-i-test.true (c.loop-i.invariant.rest s) _ refl
            (sym c.is_sign.ensures ∙ w.if-is_sign.false));
        begun = omega arith;
      }
    ]

pub returns : goal.returns
returns g c =
    let p = g.T.TermTest.passes c.args.passes.now in
    λ sign. c.test_part-2.ensures
    ∙ tested-part p c.loop-i.is_passed sign (take (length c.args.text.now - c.loop-i.start) (drop c.loop-i.start c.args.text.now))
    ∙ last-fold (test_step p) _ sign c.loop-i.start c.loop-i.i c.args.text.now _ c.loop-i-test.false (omega arith) (c.loop-i.invariant.rest sign)
    ∙ fold_from-terms (test_step p) true sign c.args.text.now ∙ fold-tests p _
