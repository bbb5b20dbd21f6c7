use Rattle.os9_boot.proofs.DebugLaws.{shows-one-run}
use Rattle.os9_boot.proofs.laws.a_debug_shows_one_run.Goals as goal

pub returns : goal.returns
returns c = shows-one-run
