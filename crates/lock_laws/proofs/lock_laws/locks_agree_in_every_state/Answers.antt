use Rattle.lock_laws.proofs.Runs.{choice-agrees, event-agrees, run-agrees, slice-agrees, start-agrees, tick-agrees}
use Rattle.lock_laws.proofs.lock_laws.locks_agree_in_every_state.Goals as goal

pub returns : goal.returns
returns c = record {
  start = start-agrees;
  event = event-agrees;
  tick = tick-agrees;
  choice = choice-agrees;
  slice = slice-agrees;
  run = run-agrees;
}
