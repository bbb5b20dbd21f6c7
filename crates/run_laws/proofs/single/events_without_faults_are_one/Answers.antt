use Rattle.run_laws.proofs.Events.{event-one, tick-one}
use Rattle.run_laws.proofs.single.events_without_faults_are_one.Goals as goal

pub returns : goal.returns
returns c = record { event = event-one; tick = tick-one }
