use Rattle.os9_boot.proofs.Completeness.{status-tells-no-fault, tells-no-fault}
use Rattle.os9_boot.proofs.laws.calls_without_faults_tell_none.Goals as goal

pub returns : goal.returns
returns c = record { end = tells-no-fault; status = status-tells-no-fault }
