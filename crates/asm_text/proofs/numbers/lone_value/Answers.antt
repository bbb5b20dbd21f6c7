use Rattle.std.proofs.Common.{◌≡◌, ◌-◌, take, drop, length, sym, ap, ◌∙◌, arith}
use Rattle.std.specs.Prelude.{option_and_then}
use Rattle.asm_model.specs.Expressions.{lone_value}
use Rattle.asm_text.proofs.Lone.{lone-number, terms-minus, terms-plain}
use Rattle.asm_text.proofs.numbers.lone_value.Goals as goal

pub returns-then-c-eq45 : goal.returns-then-c-eq45
returns-then-c-eq45 c =
    c.signed_number.ensures ∙ sym (lone-number 45 (take (length c.args.text.now - 1) (drop 1 c.args.text.now)))
    ∙ sym (ap (option_and_then lone_value) (terms-minus c.args.text.now (omega arith) c.if-c-eq45.true))

pub returns-else-c-eq45 : goal.returns-else-c-eq45
returns-else-c-eq45 c =
    c.signed_number-else-c-eq45.ensures ∙ sym (lone-number 43 c.args.text.now)
    ∙ sym (ap (option_and_then lone_value) (terms-plain c.args.text.now c.if-c-eq45.false (omega arith)))
