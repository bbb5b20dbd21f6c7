use Rattle.os9_boot.proofs.CallVerbs.{used-leaves}
use Rattle.os9_boot.proofs.commands.a_command_leaves_what_its_tool_gives.Goals as goal

pub returns : goal.returns
returns c = used-leaves
