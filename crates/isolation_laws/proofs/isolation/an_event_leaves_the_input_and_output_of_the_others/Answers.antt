use Rattle.isolation_laws.proofs.IoEvents.{event-leaves-io}
use Rattle.isolation_laws.proofs.VolumeEvents.{event-leaves-volumes}
use Rattle.isolation_laws.proofs.isolation.an_event_leaves_the_input_and_output_of_the_others.Goals as goal

pub returns : goal.returns
returns c = record { io = event-leaves-io; volumes = event-leaves-volumes }
