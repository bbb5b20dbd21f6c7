use Rattle.file_laws.proofs.OfAttempts.{again-of, waits-of}
use Rattle.file_laws.proofs.touches.calls_that_wait_are_on_devices.Goals as goal

pub returns : goal.returns
returns c = record { waits = waits-of; again = again-of }
