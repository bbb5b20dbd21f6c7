use Rattle.std.proofs.Common.{rules}
use Rattle.lock_model.specs.Records.{Records}
use Rattle.lock_model.proofs.Agreeing.{records-forgotten}
use Rattle.record_locks.proofs.records.Records.cancel.Goals as goal

pub invariant_of-self : goal.invariant_of-self
invariant_of-self c =
    let before : Records = record { locks = c.self.inside.locks; history = c.self.inside.history.items } in
    record {
      agree = rw c.cancel.ensures.locks (records-forgotten before c.args.p.0 c.self.invariant.agree);
      room = search rules;
    }
