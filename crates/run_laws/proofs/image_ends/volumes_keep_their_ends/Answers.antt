use Rattle.run_laws.proofs.EndsAlong.{choice-keeps-ends, event-keeps-ends, first-events-keep-ends, run-keeps-ends, slice-keeps-ends, tick-keeps-ends}
use Rattle.run_laws.proofs.image_ends.volumes_keep_their_ends.Goals as goal

pub returns : goal.returns
returns c = record {
  event = event-keeps-ends;
  tick = tick-keeps-ends;
  choice = choice-keeps-ends;
  slice = slice-keeps-ends;
  part = first-events-keep-ends;
  run = run-keeps-ends;
}
