use Rattle.lock_laws.proofs.Answers.{deadlock-only, deadlock-refuses, lock-only, lock-refuses}
use Rattle.lock_laws.proofs.claims.locks_refuse_as_requests_are_answered.Goals as goal

pub returns : goal.returns
returns c = record {
  locked = lock-refuses;
  deadlock = deadlock-refuses;
  locked_alone = lock-only;
  deadlock_alone = deadlock-only;
}
