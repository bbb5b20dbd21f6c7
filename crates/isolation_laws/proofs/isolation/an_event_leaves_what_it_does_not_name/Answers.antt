use Rattle.call_laws.proofs.EventsKept.{instruction-same}
use Rattle.isolation_laws.proofs.EventsKept.{event-leaves}
use Rattle.isolation_laws.proofs.isolation.an_event_leaves_what_it_does_not_name.Goals as goal

pub returns : goal.returns
returns c = record { event = event-leaves; instruction = instruction-same }
