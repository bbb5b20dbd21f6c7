use Rattle.call_dispatch.proofs.Lifting.{tries-on-device}
use Rattle.call_dispatch.proofs.device.attempt_on_device.Goals as goal

pub returns-clause-call : goal.returns-clause-call
returns-clause-call g c call m was now tied stands on =
    rw c.attempt_on_stream.ensures.kept.drives (tries-on-device call m was now c.args.by.p.0 c.attempt_on_stream.result c.attempt_on_stream.new.s
    c.args.machine.now.files c.attempt_on_stream.new.io c.cancel.new.self _ _ _ stands c.cancel.ensures c.args.call _ on
    c.args.machine.now.processes (λ differ. c.attempt_on_stream.ensures.call m tied differ) (λ is. c.attempt_on_stream.ensures.memory m tied is))
