use Rattle.call_laws.proofs.RefusedEvents.{is-event, leaves-machine}
use Rattle.call_laws.proofs.refusals.refused_events_change_nothing.Goals as goal

pub returns-clause-event : goal.returns-clause-event
returns-clause-event c = is-event

pub returns-clause-machine : goal.returns-clause-machine
returns-clause-machine c = leaves-machine
