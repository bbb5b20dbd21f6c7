use Rattle.run_laws.proofs.Loads.{begins-with, event-with, slice-with}
use Rattle.run_laws.proofs.session.keys_that_come_later_change_no_slice.Goals as goal

pub returns : goal.returns
returns c = record { event = event-with; slice = slice-with; part = begins-with }
