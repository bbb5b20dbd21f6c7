use Rattle.run_laws.proofs.Steps.{event-end, run-end, slice-end, started-run}
use Rattle.run_laws.proofs.Unfailed.{unfailed}
use Rattle.run_laws.proofs.run.some_run.Goals as goal

pub returns : goal.returns
returns c = record { event = event-end; slice = slice-end; run = run-end; started = started-run; faultless = unfailed }
