use Rattle.lock_laws.proofs.CallLocks.{event-changes}
use Rattle.lock_laws.proofs.lock_laws.an_event_changes_locks_by_its_call.Goals as goal

pub returns : goal.returns
returns c = event-changes
