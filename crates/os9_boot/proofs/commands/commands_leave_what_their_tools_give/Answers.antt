use Rattle.os9_boot.proofs.CommandLists.{some-calls}
use Rattle.os9_boot.proofs.commands.commands_leave_what_their_tools_give.Goals as goal

pub returns : goal.returns
returns c = some-calls
