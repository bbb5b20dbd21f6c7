-- So many slices of n instructions have n times as many instructions.
use Rattle.std.proofs.Common.{arith}
use Rattle.std.proofs.lemmas.Grind.{common_steps}
use Rattle.script_text.proofs.TotalLemmas.{total_with-repeated}
use Rattle.script_text.proofs.slices.add_word.Goals as goal

pub returns-clause-total : goal.returns-clause-total
returns-clause-total c =
    total_with-repeated c.args.total c.in_ok-repeat.repeat.times c.in_ok-repeat.repeat.instructions _ _ c.in_ok-repeat.ensures.slices (omega arith) (grind (arith, common_steps)) (omega arith)
