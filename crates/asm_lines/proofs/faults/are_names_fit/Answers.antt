-- The labels of those lines are asked that a statement may name.
use Rattle.std.proofs.Common.{true, false, subst, sym, ◌∙◌}
use Rattle.std.specs.Prelude.{if◌then◌else◌}
use Rattle.asm_lines.specs.Lines.{action_said}
use Rattle.asm_lines.specs.Labels.{IsReached}
use Rattle.asm_lines.proofs.LabelLemmas.{names-reached}
use Rattle.asm_lines.proofs.faults.are_names_fit.Goals as goal

pub returns-then-is_equals : goal.returns-then-is_equals
returns-then-is_equals c = λ m a all above.
    c.names_are_among.ensures
    ∙ names-reached c.args.above.now m a (action_said c.args.action.now) (subst (λ b. IsReached c.args.above.now (if b then a else m)) (sym (sym c.is_equals.ensures ∙ c.if-is_equals.true)) above)

pub returns-else-is_equals : goal.returns-else-is_equals
returns-else-is_equals c = λ m a all above.
    c.names_are_among-else-is_equals.ensures
    ∙ names-reached c.args.all.now m a (action_said c.args.action.now) (subst (λ b. IsReached c.args.all.now (if b then a else m)) (sym (sym c.is_equals.ensures ∙ c.if-is_equals.false)) all)
