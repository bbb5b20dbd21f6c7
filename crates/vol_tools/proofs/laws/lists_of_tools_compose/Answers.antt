use Rattle.vol_tools.proofs.Turns.{lists_join}
use Rattle.vol_tools.proofs.laws.lists_of_tools_compose.Goals as goal

pub returns : goal.returns
returns c = lists_join
