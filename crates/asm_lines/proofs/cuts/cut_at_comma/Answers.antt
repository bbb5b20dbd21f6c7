-- The parts are those around the first comma.
use Rattle.std.proofs.Common.{◌+◌, arith}
use Rattle.std.proofs.lemmas.List.{take_rest}
use Rattle.asm_model.specs.Characters.{is_comma}
use Rattle.asm_lines.proofs.CutLemmas.{split_around}
use Rattle.asm_lines.proofs.cuts.cut_at_comma.Goals as goal

pub returns-then-place-text-clause-parts : goal.returns-then-place-text-clause-parts
returns-then-place-text-clause-parts c =
    rw (take_rest c.args.text.now (c.first_comma-place.result + 1))
    (split_around is_comma c.args.text.now c.first_comma-place.result c.first_comma-place.ensures.place (omega arith))
