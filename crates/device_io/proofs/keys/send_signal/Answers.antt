use Rattle.proc_calls.proofs.Turns.{turns_sent}
use Rattle.device_io.proofs.keys.send_signal.Goals as goal

pub invariant_of-s-clause-turns : goal.invariant_of-s-clause-turns
invariant_of-s-clause-turns c =
    rw c.send-sent.ensures.records (turns_sent c.args.s.now.table c.args.s.now.sched 0 c.args.to.0 c.args.signal c.args.s.now.turns)
