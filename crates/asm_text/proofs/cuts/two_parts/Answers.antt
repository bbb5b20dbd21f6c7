use Rattle.std.proofs.Common.{◌∷◌, ap, sym, ◌∙◌}
use Rattle.asm_model.specs.Characters.{is_comma}
use Rattle.asm_text.specs.Cuts.{two_of}
use Rattle.asm_text.proofs.Parts.{three-parts}
use Rattle.asm_text.proofs.cuts.two_parts.Goals as goal

pub returns-in-Some : goal.returns-in-Some
returns-in-Some c =
    let more = c.in-Some.field-0 in
    sym
    (ap two_of (c.in_ok-parts.ensures ∙ ap (λ parts. c.in_ok-parts.parts.first.now ∷ parts) c.in-Some.ensures)
    ∙ three-parts is_comma c.in_ok-parts.parts.first.now more.first.now more.rest.now)
