use Rattle.std.proofs.Common.{◌≡◌, ◌+◌, ◌∙◌, sym, refl, arith, rules, pos}
use Rattle.std.proofs.lemmas.Int.{ints}
use Rattle.std.specs.Int.{w128, cast_signed as to_z, cast_unsigned as of_z}
use Rattle.asm_text.proofs.Folds.{fold_from-terms, sign-fold, sign-none, other-fold, last-fold, new-part, old-part}
use Rattle.asm_text.proofs.Sums.{add_step, fold-values}
use Rattle.asm_text.proofs.sum.sum.Goals.{then-is_sign+in_ok-value, else-is_sign}
use Rattle.asm_text.proofs.sum.sum.Goals as goal

pub returns-in_err-value : goal.returns-in_err-value
returns-in_err-value g c =
    let m = g.M.Meaning.meaning c.args.meaning.now in
    c.from_residual.ensures
    ∙ sign-none (add_step m) _ c.loop-i.sign c.loop-i.start c.loop-i.i 0 c.args.text.now _ c.loop-i.invariant.begun c.loop-i-test.true c.loop-i.invariant.rest _ refl
    (sym c.is_sign.ensures ∙ c.if-is_sign.true) (sym c.add.ensures.value ∙ c.in_err-value.was)
    ∙ fold_from-terms (add_step m) (pos 0) c.args.sign c.args.text.now ∙ fold-values m (pos 0) _

pub loop-i-preserved : goal.loop-i-preserved
loop-i-preserved g c =
    let m = g.M.Meaning.meaning c.args.meaning.now in
    elim c.if-is_sign.branch [
      | then-is_sign+in_ok-value w ↦
          let low = w.in_ok-value.ensures.low in
          let high = w.in_ok-value.ensures.high in
          let round : to_z w128 (of_z w128 w.in_ok-value.value) ≡ w.in_ok-value.value = omega (arith, ints, low, high) in
          record {
            rest = new-part (add_step m) _ _ c.if-is_sign.sign _ c.if-is_sign.start c.loop-i.i c.args.text.now _ (w.value-is ∙ round) w.sign-is w.start-is
                (sign-fold (add_step m) _ c.loop-i.sign c.loop-i.start c.loop-i.i 0 c.args.text.now _ c.loop-i.invariant.begun c.loop-i-test.true c.loop-i.invariant.rest _ refl
                (sym c.is_sign.ensures ∙ w.if-is_sign.true) _ (sym w.add.ensures.value ∙ w.in_ok-value.was));
            begun = omega arith;
            low = omega (arith, ints, low, high, round, w.value-is);
            high = omega (arith, ints, low, high, round, w.value-is);
          }
      | else-is_sign w ↦ record {
        rest = old-part (add_step m) _ _ c.if-is_sign.sign _ c.if-is_sign.start _ c.loop-i.i c.args.text.now _ w.value-is w.sign-is w.start-is
            (other-fold (add_step m) _ c.loop-i.sign c.loop-i.start c.loop-i.i 0 c.args.text.now _ c.loop-i.invariant.begun c.loop-i-test.true c.loop-i.invariant.rest _ refl
            (sym c.is_sign.ensures ∙ w.if-is_sign.false));
        begun = omega arith;
        low = omega (arith, ints, w.value-is);
        high = omega (arith, ints, w.value-is);
      }
    ]

pub returns : goal.returns
returns g c =
    let m = g.M.Meaning.meaning c.args.meaning.now in
    c.add-2.ensures.value
    ∙ last-fold (add_step m) _ c.loop-i.sign c.loop-i.start c.loop-i.i c.args.text.now _ c.loop-i-test.false (omega arith) c.loop-i.invariant.rest
    ∙ fold_from-terms (add_step m) (pos 0) c.args.sign c.args.text.now ∙ fold-values m (pos 0) _
