use Rattle.lock_laws.proofs.Causes.{call-cause}
use Rattle.lock_laws.proofs.Events.{event-same}
use Rattle.lock_laws.proofs.Ticks.{tick-lets}
use Rattle.lock_laws.proofs.Waits.{waits-same}
use Rattle.lock_laws.proofs.waking.calls_go_on_by_what_they_wait_for.Goals as goal

pub returns : goal.returns
returns c = record {
  cause = λ s q kept run is. call-cause s q kept run is;
  waits = λ s t end p q it paths event chosen differ. waits-same s t end p q it.locked paths event chosen differ;
  event = λ s t end p q tick cause it event chosen differ waits untouched. event-same s t end p q cause it.locked it.paths event chosen differ waits untouched tick;
  tick = λ s t q cause it ticks waits goes. tick-lets s t q cause it.locked ticks waits goes;
}
