-- An operand that is an expression, or is not.
use Rattle.std.proofs.Common.{ap, sym, ◌∙◌}
use Rattle.std.specs.Prelude.{option_map}
use Rattle.asm_model.specs.Statements.{equals, system_call, if_expression, directive_action}
use Rattle.asm_lines.specs.Lines.{action_said}
use Rattle.asm_lines.proofs.operands.directive_action.Goals as goal

pub returns-in_err-expression-in-Equ : goal.returns-in_err-expression-in-Equ
returns-in_err-expression-in-Equ c =
    ap (option_map action_said) c.from_residual.ensures ∙ c.in_err-expression-in-Equ.ensures equals
    ∙ ap (if_expression equals) c.first_word-operand.ensures ∙ sym (ap (λ d. directive_action d c.args.rest.now) c.in-Equ.is)

pub returns-in_ok-expression-in-Equ : goal.returns-in_ok-expression-in-Equ
returns-in_ok-expression-in-Equ c =
    c.in_ok-expression-in-Equ.ensures equals
    ∙ ap (if_expression equals) c.first_word-operand.ensures ∙ sym (ap (λ d. directive_action d c.args.rest.now) c.in-Equ.is)

pub returns-in_err-expression-in-Os9 : goal.returns-in_err-expression-in-Os9
returns-in_err-expression-in-Os9 c =
    ap (option_map action_said) c.from_residual-in_err-expression-in-Os9.ensures ∙ c.in_err-expression-in-Os9.ensures system_call
    ∙ ap (if_expression system_call) c.first_word-operand.ensures ∙ sym (ap (λ d. directive_action d c.args.rest.now) c.in-Os9.is)

pub returns-in_ok-expression-in-Os9 : goal.returns-in_ok-expression-in-Os9
returns-in_ok-expression-in-Os9 c =
    c.in_ok-expression-in-Os9.ensures system_call
    ∙ ap (if_expression system_call) c.first_word-operand.ensures ∙ sym (ap (λ d. directive_action d c.args.rest.now) c.in-Os9.is)
