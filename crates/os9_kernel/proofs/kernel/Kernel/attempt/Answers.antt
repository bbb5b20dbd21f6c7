use Rattle.os9_kernel.proofs.kernel.Kernel.attempt.Goals as goal

pub returns-in-Process-clause-event : goal.returns-in-Process-clause-event
returns-in-Process-clause-event g c = c.process_call.ensures.event _

pub returns-in-Time-clause-event : goal.returns-in-Time-clause-event
returns-in-Time-clause-event g c = c.time_call.ensures.event _

pub returns-in-Unknown-clause-event : goal.returns-in-Unknown-clause-event
returns-in-Unknown-clause-event g c = c.refuse_unknown.ensures.event _
