-- A word and the rest of its line.
use Rattle.std.proofs.Common.{ap, ◌∙◌}
use Rattle.std.specs.Prelude.{option_map}
use Rattle.text_values.specs.Cuts.{first_word, without_spaces}
use Rattle.asm_model.specs.Statements.{action_of, statement}
use Rattle.asm_lines.proofs.FieldLemmas.{worded}
use Rattle.asm_lines.proofs.line.after_label.Goals as goal

pub returns-then-not-is_empty : goal.returns-then-not-is_empty
returns-then-not-is_empty c =
    let name = option_map (λ n. n.now) c.args.name in
    let operand = c.without_spaces-operand.ensures ∙ ap without_spaces c.behind_word.ensures in
    c.stated.ensures ∙ ap (statement name) (c.action_of.ensures
    ∙ ap (λ word. action_of word c.without_spaces-operand.result.now) c.first_word.ensures ∙ ap (action_of (first_word c.args.rest.now)) operand)
    ∙ worded name c.args.rest.now c.is_empty.result c.is_empty.ensures c.if-not-is_empty.true
