use Rattle.std.proofs.Common.{◌≡◌, sym, ap, ◌∙◌, arith}
use Rattle.std.specs.Prelude.{option_map}
use Rattle.std.specs.List.{list_all}
use Rattle.asm_text.proofs.Lone.{terms-minus, terms-plain}
use Rattle.asm_text.proofs.passing.every_term.Goals as goal

pub returns-then-c-eq45 : goal.returns-then-c-eq45
returns-then-c-eq45 g c =
    c.test_all.ensures 45
    ∙ sym (ap (option_map (list_all (λ t. g.T.TermTest.passes c.args.test.now t.term))) (terms-minus c.args.text.now (omega arith) c.if-c-eq45.true))

pub returns-else-c-eq45 : goal.returns-else-c-eq45
returns-else-c-eq45 g c =
    c.test_all-else-c-eq45.ensures 43
    ∙ sym (ap (option_map (list_all (λ t. g.T.TermTest.passes c.args.test.now t.term))) (terms-plain c.args.text.now c.if-c-eq45.false (omega arith)))
