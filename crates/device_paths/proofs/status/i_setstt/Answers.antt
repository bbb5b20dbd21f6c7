use Rattle.io_model.specs.Attempts.{caller_of}
use Rattle.io_model.specs.declared.io_call.IoCall.TheVariants as Call
use Rattle.device_paths.proofs.QuietLemmas.{attempts, setstt-quiet}
use Rattle.device_paths.proofs.status.i_setstt.Goals as goal

pub returns-clause-call : goal.returns-clause-call
returns-clause-call c m drives terms tied =
    attempts Call.SetStt m c.args.io.now c.set_status.new.io drives c.args.p.0 c.set_status.result c.set_status.new.s
    terms (setstt-quiet (caller_of m c.args.p.0) c.args.io.now) (c.set_status.ensures.call m tied)
