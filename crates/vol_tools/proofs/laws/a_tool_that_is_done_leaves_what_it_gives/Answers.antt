use Rattle.vol_tools.proofs.Turns.{one_use}
use Rattle.vol_tools.proofs.laws.a_tool_that_is_done_leaves_what_it_gives.Goals as goal

pub returns : goal.returns
returns c = one_use
