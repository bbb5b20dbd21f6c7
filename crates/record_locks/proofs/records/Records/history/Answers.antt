use Rattle.std.proofs.Common.{subst}
use Rattle.lock_model.specs.Records.{AreLockRecords, Records}
use Rattle.lock_model.proofs.Histories.{pairs-atomic}
use Rattle.record_locks.proofs.records.Records.history.Goals as goal

pub returns-clause-atomic : goal.returns-clause-atomic
returns-clause-atomic c =
    let agree : AreLockRecords c.args.self.now = subst (λ (records : Records). AreLockRecords records) c.self.view_is c.self.invariant.agree in
    pairs-atomic c.args.self.now.history agree.undisturbed
