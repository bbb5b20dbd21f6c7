use Rattle.run_laws.proofs.Runs.{bare-never, run-one, slice-one}
use Rattle.run_laws.proofs.single.a_run_without_volumes_is_one.Goals as goal

pub returns : goal.returns
returns c = record { without = bare-never; slice = slice-one; run = run-one }
