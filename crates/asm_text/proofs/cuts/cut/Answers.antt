use Rattle.std.proofs.Common.{◌+◌, arith}
use Rattle.std.proofs.lemmas.List.{take_rest}
use Rattle.asm_model.specs.Characters.{is_comma}
use Rattle.asm_text.proofs.Parts.{split-first, split-none}
use Rattle.asm_text.proofs.cuts.cut.Goals as goal

pub returns-then-place-text : goal.returns-then-place-text
returns-then-place-text c =
    rw (take_rest c.args.text.now (c.first_comma-place.result + 1))
    (split-first is_comma c.args.text.now c.first_comma-place.result c.first_comma-place.ensures.place c.if-place-text.true)

pub returns-else-place-text : goal.returns-else-place-text
returns-else-place-text c = split-none is_comma c.args.text.now (omega (arith, c.first_comma-place.ensures.place))
