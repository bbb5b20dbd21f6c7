use Rattle.lock_laws.proofs.Answers.{takes-effect}
use Rattle.lock_laws.proofs.LockEnds.{lock-ends}
use Rattle.lock_laws.proofs.claims.granted_requests_take_effect.Goals as goal

pub returns : goal.returns
returns c = record { granted = takes-effect; ended = lock-ends }
