use Rattle.std.proofs.Common.{ap, sym, ◌∙◌}
use Rattle.std.specs.List.{slice_split}
use Rattle.asm_model.specs.Characters.{is_comma}
use Rattle.asm_model.specs.Operands.{offset_among, offset_from}
use Rattle.asm_text.proofs.Parts.{two-back}
use Rattle.asm_text.proofs.index.offset_among.Goals as goal

pub returns : goal.returns
returns c =
    let first = c.in_ok-parts.parts.first.now in
    let base = c.in_ok-parts.parts.rest.now in
    c.offset_from.ensures ∙ ap (λ offset. offset_from c.args.indirect offset base) c.marked.ensures
    ∙ ap (offset_among c.args.indirect) (sym (two-back (slice_split is_comma c.args.text.now) first base c.in_ok-parts.ensures))
