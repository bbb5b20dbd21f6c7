use Rattle.io_model.specs.Attempts.{caller_of}
use Rattle.io_model.specs.declared.io_call.IoCall.TheVariants as Call
use Rattle.device_paths.proofs.QuietLemmas.{attempts, close-quiet}
use Rattle.device_paths.proofs.numbers.i_close.Goals as goal

pub returns-clause-call : goal.returns-clause-call
returns-clause-call c m drives terms tied =
    attempts Call.Close m c.args.io.now c.close.new.io drives c.args.p.0 c.close.result c.close.new.s terms (close-quiet (caller_of m c.args.p.0) c.args.io.now) (c.close.ensures.call m tied)
