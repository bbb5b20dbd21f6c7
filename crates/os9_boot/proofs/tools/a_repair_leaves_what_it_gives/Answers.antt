use Rattle.os9_boot.proofs.Lists.{one_repair}
use Rattle.os9_boot.proofs.tools.a_repair_leaves_what_it_gives.Goals as goal

pub returns : goal.returns
returns c = one_repair
