use Rattle.std.proofs.Common.{rules}
use Rattle.lock_model.proofs.Agreeing.{records-first}
use Rattle.record_locks.proofs.records.Records.new.Goals as goal

pub invariant_of-result : goal.invariant_of-result
invariant_of-result c = record {
  agree = rw (c.in_ok-new.ensures, c.new-2.ensures.items) records-first;
  room = search rules;
}
