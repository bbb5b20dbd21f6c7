use Rattle.lock_model.proofs.Ranks.{no-cycle, ranks-first, ranks-waiting, ranks-granted, ranks-released, ranks-forgotten}
use Rattle.lock_model.proofs.laws.waits_have_no_cycle.Goals as goal

pub returns : goal.returns
returns c = record {
  none = no-cycle;
  first = ranks-first;
  waiting = ranks-waiting;
  granted = ranks-granted;
  ended = ranks-released;
  forgotten = ranks-forgotten;
}
