-- The parts of LSN 0 are pushed one behind the other.
use Rattle.std.proofs.Common.{arith, append_assoc}
use Rattle.std.proofs.lemmas.Grind.{common_steps}
use Rattle.vol_tools.specs.Blank.{blank_ident}
use Rattle.vol_tools.proofs.parts.push_ident.Goals as goal

pub returns : goal.returns
unfolding blank_ident
returns c = grind (arith, common_steps, append_assoc)
