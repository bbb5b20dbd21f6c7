-- The characters are those before the first quote.
use Rattle.std.proofs.Common.{◌+◌, ap, arith, sym, ◌∙◌}
use Rattle.std.proofs.lemmas.List.{take_rest}
use Rattle.asm_model.specs.Statements.{ends_there}
use Rattle.asm_lines.proofs.CutLemmas.{quoted_around}
use Rattle.asm_lines.proofs.cuts.up_to_quote.Goals as goal

pub returns-then-ends_there : goal.returns-then-ends_there
returns-then-ends_there c =
    quoted_around c.args.text.now c.first_quote-place.result c.first_quote-place.ensures.place (omega arith)
    (ap ends_there (sym (take_rest c.args.text.now (c.first_quote-place.result + 1))) ∙ sym c.ends_there.ensures ∙ c.if-ends_there.true)
