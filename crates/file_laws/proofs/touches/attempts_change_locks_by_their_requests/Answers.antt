use Rattle.file_laws.proofs.Claimed.{records-come}
use Rattle.file_laws.proofs.OtherLocks.{others-keep}
use Rattle.file_laws.proofs.touches.attempts_change_locks_by_their_requests.Goals as goal

pub returns : goal.returns
returns c = record { come = records-come; others = others-keep }
