use Rattle.call_laws.proofs.Events.{event-running}
use Rattle.call_laws.proofs.RunningLaws.{choice-running, start-running, tick-running}
use Rattle.call_laws.proofs.Runs.{run-running, slice-running}
use Rattle.call_laws.proofs.kept.calls_that_wait_are_kept.Goals as goal

pub returns : goal.returns
returns c = record {
  start = start-running;
  event = event-running;
  tick = tick-running;
  choice = choice-running;
  slice = slice-running;
  run = run-running;
}
