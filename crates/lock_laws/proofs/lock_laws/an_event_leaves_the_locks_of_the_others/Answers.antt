use Rattle.lock_laws.proofs.OnFiles.{event-leaves-locks}
use Rattle.lock_laws.proofs.lock_laws.an_event_leaves_the_locks_of_the_others.Goals as goal

pub returns : goal.returns
returns c = event-leaves-locks
