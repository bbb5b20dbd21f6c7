use Rattle.lock_laws.proofs.Deadlocks.{alone, always}
use Rattle.lock_laws.proofs.lock_laws.a_deadlock_is_refused_exactly_for_a_cycle.Goals as goal

pub returns : goal.returns
returns c = record {
  alone = alone;
  always = always;
}
