use Rattle.lock_laws.proofs.Cycles.{answered-so, closes-so}
use Rattle.lock_laws.proofs.claims.a_deadlock_is_a_cycle_at_a_first_attempt.Goals as goal

pub returns : goal.returns
returns c = λ it places. (closes-so it places, answered-so it places)
