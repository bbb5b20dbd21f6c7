use Rattle.std.proofs.Common.{refl}
use Rattle.lock_model.proofs.Keeping.{are-first}
use Rattle.record_locks.proofs.locks.Locks.new.Goals as goal

pub invariant_of-result : goal.invariant_of-result
invariant_of-result c = rw (c.in_ok-no_held.ensures, c.in_ok-no_requests.ensures) record { kept = are-first; counted = refl }
