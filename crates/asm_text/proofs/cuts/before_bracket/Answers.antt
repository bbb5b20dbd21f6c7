use Rattle.std.proofs.Common.{[], ◌∷◌}
use Rattle.std.proofs.lemmas.Bool.Decides.{Decides-eqb}
use Rattle.std.proofs.lemmas.Slice.Eq.{strip_suffix_is}
use Rattle.asm_text.proofs.Parts.{bracket-stripped}
use Rattle.asm_text.proofs.cuts.before_bracket.Goals as goal

pub returns : goal.returns
returns c =
    bracket-stripped c.args.text.now c.strip_suffix.result
    (strip_suffix_is Decides-eqb c.args.text.now (93 ∷ []) c.strip_suffix.result c.strip_suffix.ensures.cases)
