use Rattle.std.proofs.Common.{◌+◌, ◌*◌, Bool, Some, None, ap, sym, ◌∙◌}
use Rattle.std.specs.Prelude.{if◌then◌else◌}
use Rattle.asm_text.proofs.Pairs.{pair-read, some-if}
use Rattle.asm_text.proofs.register.register_pair.Goals as goal

pub returns-in_err-destination : goal.returns-in_err-destination
returns-in_err-destination c =
    let parts = c.in_ok-parts.parts in
    c.from_residual-in_err-destination.ensures
    ∙ pair-read c.args.text.now parts.first.now parts.rest.now c.in_ok-source.source None c.in_ok-parts.ensures (sym c.in_ok-source.was ∙ c.register_code.ensures.code)
    (sym c.in_err-destination.was ∙ c.register_code-2.ensures.code)

pub returns : goal.returns
returns c =
    let parts = c.in_ok-parts.parts in
    let destination = c.in_ok-destination.destination in
    let pair = 16 * c.in_ok-source.source + destination in
    c.then_some.ensures ∙ some-if c.is_pair.result pair ∙ ap (λ (b : Bool). if b then Some pair else None) c.is_pair.ensures
    ∙ pair-read c.args.text.now parts.first.now parts.rest.now c.in_ok-source.source (Some destination) c.in_ok-parts.ensures
    (sym c.in_ok-source.was ∙ c.register_code.ensures.code) (sym c.in_ok-destination.was ∙ c.register_code-2.ensures.code)
