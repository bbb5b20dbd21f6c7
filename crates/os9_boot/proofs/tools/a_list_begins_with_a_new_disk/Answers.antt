use Rattle.os9_boot.proofs.Lists.{from_new}
use Rattle.os9_boot.proofs.tools.a_list_begins_with_a_new_disk.Goals as goal

pub returns : goal.returns
returns c = from_new
