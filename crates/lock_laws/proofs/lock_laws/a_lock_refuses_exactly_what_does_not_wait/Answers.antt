use Rattle.lock_laws.proofs.Deadlocks.{alone-locked, always-locked}
use Rattle.lock_laws.proofs.lock_laws.a_lock_refuses_exactly_what_does_not_wait.Goals as goal

pub returns : goal.returns
returns c = record {
  alone = alone-locked;
  always = always-locked;
}
