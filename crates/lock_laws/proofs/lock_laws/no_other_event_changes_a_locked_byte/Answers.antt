use Rattle.lock_laws.proofs.LockedBytes.{event-keeps-locked}
use Rattle.lock_laws.proofs.lock_laws.no_other_event_changes_a_locked_byte.Goals as goal

pub returns : goal.returns
returns c = event-keeps-locked
