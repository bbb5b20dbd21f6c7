use Rattle.isolation_laws.proofs.Events.{event-holds}
use Rattle.isolation_laws.proofs.objects.new_objects_hold_a_file_zeros_and_parameters.Goals as goal

pub returns : goal.returns
returns c = record { event = event-holds }
