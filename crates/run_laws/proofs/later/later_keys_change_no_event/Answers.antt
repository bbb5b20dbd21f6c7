use Rattle.run_laws.proofs.LaterEvents.{event-too}
use Rattle.run_laws.proofs.later.later_keys_change_no_event.Goals as goal

pub returns : goal.returns
returns c = record { event = event-too }
