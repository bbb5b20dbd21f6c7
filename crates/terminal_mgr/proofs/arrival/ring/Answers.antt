use Rattle.std.proofs.Common.{refl}
use Rattle.terminal_mgr.proofs.PollLemmas.{rose-none}
use Rattle.terminal_mgr.proofs.arrival.ring.Goals as goal

pub returns-in-Ok-clause-rung : goal.returns-in-Ok-clause-rung
returns-in-Ok-clause-rung g c = (
  1,
  0,
  refl,
  record {
    put = c.in-Ok.ensures.put_last;
    faults = rose-none _ _ c.in-Ok.ensures.faults_kept;
    keys = c.in-Ok.ensures.keys_kept;
  },
)
