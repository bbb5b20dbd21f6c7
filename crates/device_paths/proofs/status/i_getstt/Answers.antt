use Rattle.io_model.specs.Attempts.{caller_of}
use Rattle.io_model.specs.declared.io_call.IoCall.TheVariants as Call
use Rattle.device_paths.proofs.QuietLemmas.{attempts, getstt-quiet}
use Rattle.device_paths.proofs.status.i_getstt.Goals as goal

pub returns-clause-call : goal.returns-clause-call
returns-clause-call c m drives terms tied =
    attempts Call.GetStt m c.args.io.now c.get_status.new.io drives c.args.p.0 c.get_status.result c.get_status.new.s
    terms (getstt-quiet (caller_of m c.args.p.0) c.args.io.now) (c.get_status.ensures.call m tied)
