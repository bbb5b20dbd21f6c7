use Rattle.std.proofs.Common.{◌≡◌, sym, ap, ◌∙◌, arith}
use Rattle.std.specs.Prelude.{option_and_then}
use Rattle.asm_model.specs.Expressions.{value_of}
use Rattle.asm_text.proofs.Lone.{terms-minus, terms-plain}
use Rattle.asm_text.proofs.sum.value_of.Goals as goal

pub returns-then-c-eq45 : goal.returns-then-c-eq45
returns-then-c-eq45 g c =
    c.sum.ensures ∙ sym (ap (option_and_then (value_of (g.M.Meaning.meaning c.args.meaning.now))) (terms-minus c.args.text.now (omega arith) c.if-c-eq45.true))

pub returns-else-c-eq45 : goal.returns-else-c-eq45
returns-else-c-eq45 g c =
    c.sum-else-c-eq45.ensures
    ∙ sym (ap (option_and_then (value_of (g.M.Meaning.meaning c.args.meaning.now))) (terms-plain c.args.text.now c.if-c-eq45.false (omega arith)))
