use Rattle.os9_boot.proofs.Calls.{dir-prints}
use Rattle.os9_boot.proofs.commands.a_dir_prints_its_directory.Goals as goal

pub returns : goal.returns
returns c = dir-prints
