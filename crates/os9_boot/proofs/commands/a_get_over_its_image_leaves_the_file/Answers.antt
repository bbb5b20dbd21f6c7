use Rattle.os9_boot.proofs.Calls.{over-leaves}
use Rattle.os9_boot.proofs.commands.a_get_over_its_image_leaves_the_file.Goals as goal

pub returns : goal.returns
returns c = over-leaves
