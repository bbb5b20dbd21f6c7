use Rattle.os9_boot.proofs.Calls.{get-leaves}
use Rattle.os9_boot.proofs.commands.a_get_leaves_the_file.Goals as goal

pub returns : goal.returns
returns c = get-leaves
