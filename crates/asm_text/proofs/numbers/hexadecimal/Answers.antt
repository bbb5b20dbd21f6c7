use Rattle.std.proofs.Common.{◌≡◌, ◌+◌, ◌<◌, ◌≤◌, ◌∙◌, drop, length, sym, ap, arith}
use Rattle.std.specs.Prelude.{option_and_then}
use Rattle.asm_model.specs.Numbers.{hex_after}
use Rattle.asm_text.proofs.DigitLemmas.{limit-next, limit-small, digit-sum, hexadecimal-is}
use Rattle.asm_text.proofs.numbers.hexadecimal.Goals as goal

pub with_digit-requires : goal.with_digit-requires
with_digit-requires c =
    let early : c.loop-c.c-index < 4 = omega arith in
    omega (arith, limit-small c.loop-c.c-index early, c.loop-c.invariant.small)

pub loop-c-preserved : goal.loop-c-preserved
loop-c-preserved c =
    let early : c.loop-c.c-index < 4 = omega arith in
    record {
      rest = ap (option_and_then (λ next. hex_after next (drop (c.loop-c.c-index + 1) c.args.text.now))) (sym c.in_ok-value.was ∙ c.with_digit.ensures.value)
          ∙ digit-sum c.loop-c.value c.loop-c.c-index 0 c.args.text.now _ c.loop-c-test.true c.loop-c.invariant.rest;
      small = omega (arith, limit-next c.loop-c.c-index early, c.in_ok-value.ensures.below, c.loop-c.invariant.small);
    }

pub returns-in_err-value : goal.returns-in_err-value
returns-in_err-value c =
    let none = ap (option_and_then (λ next. hex_after next (drop (c.loop-c.c-index + 1) c.args.text.now))) (sym c.in_err-value.was ∙ c.with_digit.ensures.value)
    ∙ digit-sum c.loop-c.value c.loop-c.c-index 0 c.args.text.now _ c.loop-c-test.true c.loop-c.invariant.rest in
    c.from_residual.ensures ∙ none ∙ sym (hexadecimal-is c.args.text.now (omega arith) (omega arith))
