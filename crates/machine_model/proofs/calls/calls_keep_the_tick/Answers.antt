use Rattle.machine_model.proofs.Ticks.{attempt-tick, ended-tick}
use Rattle.machine_model.proofs.calls.calls_keep_the_tick.Goals as goal

pub returns : goal.returns
returns c = record { attempt = attempt-tick; end = ended-tick }
