use Rattle.std.proofs.Common.{sym, subst}
use Rattle.lock_model.specs.Changes.{ChangesByRule}
use Rattle.lock_model.specs.Records.{AreLockRecords, Records}
use Rattle.lock_model.proofs.Agreeing.{records-first, records-held, records-written, records-without, records-ended-below, records-waiting, records-forgotten}
use Rattle.lock_model.proofs.Histories.{pairs-atomic}
use Rattle.lock_model.proofs.laws.the_history_is_atomic.Goals as goal

-- each change by the rules keeps the agreement
records-changed : (records now : Records) → ChangesByRule records now → AreLockRecords records → AreLockRecords now
records-changed records now (ChangesByRule.granted path lock bytes low may is) was =
    subst AreLockRecords (sym is) (records-held records path lock bytes low may was)
records-changed records now (ChangesByRule.written path lock bytes low free is) was =
    subst AreLockRecords (sym is) (records-written records path lock bytes low free was)
records-changed records now (ChangesByRule.ended path is) was = subst AreLockRecords (sym is) (records-without records path was)
records-changed records now (ChangesByRule.ended_below ends count is) was =
    subst AreLockRecords (sym is) (records-ended-below ends count records was)
records-changed records now (ChangesByRule.waiting request quiet unclosed is) was =
    subst AreLockRecords (sym is) (records-waiting records request quiet unclosed was)
records-changed records now (ChangesByRule.forgotten p is) was = subst AreLockRecords (sym is) (records-forgotten records p was)

pub returns : goal.returns
returns c = record {
  pairs = λ records are. pairs-atomic records.history are.undisturbed;
  first = records-first;
  changed = records-changed;
}
