use Rattle.lock_laws.proofs.Living.{choice-living, event-living, start-living, tick-living}
use Rattle.lock_laws.proofs.OpenRuns.{run-open, slice-open}
use Rattle.lock_laws.proofs.waking.only_living_processes_have_paths.Goals as goal

pub returns : goal.returns
returns c = record {
  start = start-living;
  event = event-living;
  tick = tick-living;
  choice = choice-living;
  slice = slice-open;
  run = run-open;
}
