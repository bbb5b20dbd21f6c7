use Rattle.proc_calls.proofs.Turns.{turns_sent}
use Rattle.proc_calls.proofs.signals.f_send.Goals as goal

pub invariant_of-s-clause-turns : goal.invariant_of-s-clause-turns
invariant_of-s-clause-turns c =
    rw c.send.ensures.records (turns_sent c.args.s.now.table c.args.s.now.sched c.user-user.result c.regs-regs.result.a c.regs-regs.result.b c.args.s.now.turns)
