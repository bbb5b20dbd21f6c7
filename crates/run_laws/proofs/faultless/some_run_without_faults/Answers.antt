use Rattle.run_laws.proofs.SomeRuns.{event-faultless, none-failed, run-faultless, slice-faultless, started-faultless}
use Rattle.run_laws.proofs.faultless.some_run_without_faults.Goals as goal

pub returns : goal.returns
returns c = record {
  event = event-faultless;
  slice = slice-faultless;
  run = run-faultless;
  started = started-faultless;
  unfailed = none-failed;
}
