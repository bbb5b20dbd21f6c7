use Rattle.io_model.specs.Attempts.{caller_of}
use Rattle.io_model.specs.declared.io_call.IoCall.TheVariants as Call
use Rattle.device_paths.proofs.QuietLemmas.{attempts, dup-quiet}
use Rattle.device_paths.proofs.numbers.i_dup.Goals as goal

pub returns-clause-call : goal.returns-clause-call
returns-clause-call c m drives terms tied =
    attempts Call.Dup m c.args.io.now c.double.new.io drives c.args.p.0 c.double.result c.double.new.s terms (dup-quiet (caller_of m c.args.p.0) c.args.io.now) (c.double.ensures.call m tied)
