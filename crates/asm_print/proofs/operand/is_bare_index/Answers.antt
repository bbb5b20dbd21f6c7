use Rattle.std.proofs.Common.{◌≡◌, ◌∙◌, ap, rules, arith}
use Rattle.std.proofs.lemmas.Grind.{common_steps}
use Rattle.asm_model.specs.Characters.{same_word}
use Rattle.asm_model.specs.Print.{in_brackets, plain_index}
use Rattle.asm_model.proofs.EntryOf.{same_answer}
use Rattle.asm_print.proofs.operand.is_bare_index.Goals as goal

pub returns : goal.returns
returns c =
    let text : c.as_slice.result.now ≡ in_brackets c.args.meaning.2 (plain_index c.args.meaning.0 c.args.meaning.1) = grind (arith, common_steps) in
    same_answer c.eq_ignore_ascii_case.result c.as_slice.result.now c.args.text.now c.eq_ignore_ascii_case.ensures.test
    ∙ ap (λ t. same_word t c.args.text.now) text
