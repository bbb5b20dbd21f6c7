-- What a call waits for (this project's own; the real system keeps a queue for each cause).
use Rattle.std.specs.Prelude.{Option, Some, None}
use Rattle.os9_sched.specs.declared.member.Cause.TheVariants as Cause
use Rattle.os9_sched.specs.declared.member.Wait.{Wait}
use Rattle.proc_model.specs.declared.own.Own.{Own}
use Rattle.proc_model.specs.declared.proc_call.ProcCall.{ProcCall}
use Rattle.proc_model.specs.declared.proc_call.ProcCall.TheVariants as Call

-- F$Wait waits for the end of a child, F$Sleep for its tick or signal 1; no other call on processes and modules waits
abbrev pub waits_for : ProcCall → Own → Option Wait
waits_for Call.Wait own = Some (record { cause = Cause.Child; until = None })
waits_for Call.Sleep own = Some (record { cause = Cause.Sleep; until = own.until })
waits_for call own = None
