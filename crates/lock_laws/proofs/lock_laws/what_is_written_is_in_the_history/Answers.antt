use Rattle.lock_laws.proofs.Histories.{event-gains, event-gains-own, event-gains-put, event-gains-read}
use Rattle.lock_laws.proofs.Writes.{event-written}
use Rattle.lock_laws.proofs.lock_laws.what_is_written_is_in_the_history.Goals as goal

pub returns : goal.returns
returns c = record {
  gains = event-gains;
  own = event-gains-own;
  read = event-gains-read;
  put = event-gains-put;
  written = event-written;
}
