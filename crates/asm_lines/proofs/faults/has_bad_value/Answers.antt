-- The values by the table are those by the list.
use Rattle.std.proofs.Common.{◌||◌, ap, sym, ◌∙◌}
use Rattle.asm_model.specs.Placement.{is_too_long, is_bad_kind}
use Rattle.asm_lines.specs.Lines.{action_said}
use Rattle.asm_lines.proofs.LabelLemmas.{values-reached, bad-out, bad-other}
use Rattle.asm_lines.proofs.faults.has_bad_value.Goals as goal

pub returns-then-has_value_out : goal.returns-then-has_value_out
returns-then-has_value_out c = λ m a all above.
    let out = c.has_value_out.ensures ∙ values-reached c.args.all.now c.args.above.now m a (action_said c.args.action.now) all above in
    c.if-has_value_out.true ∙ bad-out m a (action_said c.args.action.now) (sym out ∙ c.if-has_value_out.true)

pub returns-else-has_value_out : goal.returns-else-has_value_out
returns-else-has_value_out c = λ m a all above.
    let out = c.has_value_out.ensures ∙ values-reached c.args.all.now c.args.above.now m a (action_said c.args.action.now) all above in
    bad-other m a (action_said c.args.action.now) _ (sym out ∙ c.if-has_value_out.false)
    (c.is_module_out.ensures ∙ ap (λ o. is_too_long o (action_said c.args.action.now) || is_bad_kind (action_said c.args.action.now)) above.offset)
