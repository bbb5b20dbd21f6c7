-- A name of name characters is read whole.
use Rattle.std.proofs.Common.{Some, None, ap, sym, ◌∙◌}
use Rattle.std.specs.Prelude.{if◌then◌else◌}
use Rattle.asm6809.proofs.NameLemmas.{parsed-whole}
use Rattle.asm6809.proofs.module.module_name.Goals as goal

pub returns-then-is_module_name : goal.returns-then-is_module_name
returns-then-is_module_name c =
    let is = sym c.is_module_name.ensures ∙ c.if-is_module_name.true in
    c.ok.ensures.value ∙ c.parse_name.ensures ∙ parsed-whole c.args.text.now is ∙ sym (ap (λ b. if b then Some c.args.text.now else None) is)
