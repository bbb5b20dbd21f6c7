use Rattle.os9_boot.proofs.CommandLists.{from-format}
use Rattle.os9_boot.proofs.commands.commands_begin_with_a_format.Goals as goal

pub returns : goal.returns
returns c = from-format
