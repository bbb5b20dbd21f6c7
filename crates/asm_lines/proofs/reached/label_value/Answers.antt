-- The value by the table is the one by the list.
use Rattle.std.proofs.Common.{ap, sym, ◌∙◌}
use Rattle.std.specs.Prelude.{option_and_then}
use Rattle.asm_model.specs.Placement.{held, label_value}
use Rattle.asm_lines.specs.Lines.{action_said}
use Rattle.asm_lines.proofs.LabelLemmas.{value-reached}
use Rattle.asm_lines.proofs.reached.label_value.Goals as goal

pub returns-in-Equals : goal.returns-in-Equals
returns-in-Equals c = λ m reached.
    c.held_at.ensures ∙ ap (option_and_then held) (value-reached c.args.above.now m c.in-Equals.text.now reached)
    ∙ sym (ap (λ a. label_value m (action_said a)) c.in-Equals.is)
