-- More than four operands are none.
use Rattle.std.proofs.Common.{◌∷◌, ap, sym, ◌∙◌}
use Rattle.asm_model.specs.Statements.{module_fields}
use Rattle.asm_lines.proofs.FieldLemmas.{more-fields}
use Rattle.asm_lines.proofs.operands.module_fields.Goals as goal

pub returns-then-is_some : goal.returns-then-is_some
returns-then-is_some c =
    let name = c.in_ok-name.name.before.now in
    let kind = c.in_ok-kind.kind.before.now in
    let attributes = c.in_ok-attributes.attributes.before.now in
    sym
    (ap module_fields (c.in_ok-name.ensures.parts ∙ ap (λ more. name ∷ more) (c.in_ok-kind.ensures.parts ∙ ap (λ more. kind ∷ more) c.in_ok-attributes.ensures.parts))
    ∙ more-fields name kind attributes c.in_ok-attributes.attributes.behind.now c.cut_at_comma-4.result (sym c.is_some.ensures ∙ c.if-is_some.true) c.cut_at_comma-4.ensures.parts)
