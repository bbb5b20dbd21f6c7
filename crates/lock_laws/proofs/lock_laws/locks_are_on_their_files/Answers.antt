use Rattle.lock_laws.proofs.OnFiles.{choice-locked, event-locked, run-locked, slice-locked, start-on, tick-locked}
use Rattle.lock_laws.proofs.lock_laws.locks_are_on_their_files.Goals as goal

pub returns : goal.returns
returns c = record {
  start = start-on;
  event = event-locked;
  tick = tick-locked;
  choice = choice-locked;
  slice = slice-locked;
  run = run-locked;
}
