use Rattle.os9_boot.proofs.Accepted.{is-one-run}
use Rattle.os9_boot.proofs.laws.a_boot_is_one_run.Goals as goal

pub returns : goal.returns
returns c = is-one-run
