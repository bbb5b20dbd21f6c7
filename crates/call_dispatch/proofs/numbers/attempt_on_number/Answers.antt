use Rattle.std.proofs.Common.{refl, sym, ap}
use Rattle.file_rules.specs.declared.path_call.PathCall.TheVariants as Call
use Rattle.call_dispatch.proofs.Lifting.{tries-of}
use Rattle.call_dispatch.proofs.OnCalls.{time-for}
use Rattle.call_dispatch.proofs.OnNumbers.{number-tries}
use Rattle.call_dispatch.specs.Numbers.{number_call}
use Rattle.call_dispatch.specs.Uses.{call_of}
use Rattle.call_dispatch.specs.declared.numbers.NumberCall.TheVariants as Number
use Rattle.call_dispatch.proofs.numbers.attempt_on_number.Goals as goal

pub returns-in-Dup-clause-call : goal.returns-in-Dup-clause-call
returns-in-Dup-clause-call g c time is m was tied stands kinds =
    number-tries c.args.call Number.Dup m was time c.args.by.p.0 c.in-Dup.is c.attempt_on_device.result _ _ _ _ (c.attempt_on_device.ensures.call Call.Dup m was time tied stands refl)

pub returns-in-Seek-clause-call : goal.returns-in-Seek-clause-call
returns-in-Seek-clause-call g c time is m was tied stands kinds =
    number-tries c.args.call Number.Seek m was time c.args.by.p.0 c.in-Seek.is c.seek_path.result _ _ _ _
    (tries-of Call.Seek m was time c.args.by.p.0 c.seek_path.result _ _ _ _ (c.seek_path.ensures.call time _ _ m was
    tied stands kinds))

pub returns-in-Close-clause-call : goal.returns-in-Close-clause-call
returns-in-Close-clause-call g c time is m was tied stands kinds =
    number-tries c.args.call Number.Close m was time c.args.by.p.0 c.in-Close.is c.close_path.result _ _ _ _ (c.close_path.ensures.call time m was tied stands kinds)

pub returns-in-Use-clause-call : goal.returns-in-Use-clause-call
returns-in-Use-clause-call g c time is m was tied stands kinds =
    number-tries c.args.call (Number.Use c.in-Use.used) m was time c.args.by.p.0 c.in-Use.is c.use_path.result _ _ _ _
    (c.use_path.ensures.call time (time-for (number_call c.args.call) (call_of c.in-Use.used) c.args.by.time time
    (sym (ap number_call c.in-Use.is)) is) m was tied stands kinds)
