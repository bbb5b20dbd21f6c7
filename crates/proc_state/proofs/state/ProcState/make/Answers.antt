use Rattle.std.proofs.Common.{sym}
use Rattle.proc_state.proofs.FreeNumbers.{free_apart}
use Rattle.proc_state.proofs.state.ProcState.make.Goals as goal

pub add-requires-clause-apart : goal.add-requires-clause-apart
add-requires-clause-apart c =
    free_apart c.args.self.now.table c.args.self.now.sched c.in_ok-p.p.0 c.args.self.now.turns (sym c.in_ok-p.ensures.number)
