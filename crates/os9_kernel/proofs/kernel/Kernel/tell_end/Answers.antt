use Rattle.os9_sched.specs.declared.member.Wait.{Wait as Waiting}
use Rattle.proc_calls.specs.Telling.{SchedulesWait}
use Rattle.os9_kernel.specs.Causes.{awaited}
use Rattle.os9_kernel.proofs.Waiting.{told-so}
use Rattle.os9_kernel.proofs.kernel.Kernel.tell_end.Goals as goal

pub returns-clause-told : goal.returns-clause-told
returns-clause-told c m call comes = (c.tell.ensures.told m call comes, c.tell.ensures.same m call comes)

pub returns-clause-waits : goal.returns-clause-waits
returns-clause-waits c waits =
    let old = c.args.self.now in
    told-so (awaited old.machine.files c.args.p.0) c.wait_at-wait.result (c.wait_at-wait.ensures waits)
    (λ (wait : Waiting). SchedulesWait old.machine.processes c.tell.new.s c.args.p.0 wait) (c.tell.ensures.waits waits)
