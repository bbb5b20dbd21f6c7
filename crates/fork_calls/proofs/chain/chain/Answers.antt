use Rattle.std.proofs.Common.{sym, subst}
use Rattle.std.proofs.lemmas.Result.{err_from_is_err_and}
use Rattle.proc_model.specs.CallResult.{CallResult}
use Rattle.proc_model.specs.Chain.{f_chain}
use Rattle.proc_calls.proofs.Steps.{refused-answers}
use Rattle.proc_state.specs.Tie.{ReturnsDoneOrRefused}
use Rattle.fork_calls.specs.Starting.{starts_anew}
use Rattle.fork_calls.proofs.chain.chain.Goals as goal

pub returns-in_err-program-clause-call : goal.returns-in_err-program-clause-call
returns-in_err-program-clause-call c m tied =
    let p = c.args.p.0 in
    refused-answers m (f_chain m p) c.in_err-program.field-0.0 c.from_residual.result c.read_program.new.s
    (err_from_is_err_and c.from_residual.result c.from_residual.ensures.1)
    (c.in_err-program.ensures.read m tied (starts_anew m p)) (c.read_program.ensures.same.represents m tied)

pub returns-clause-call : goal.returns-clause-call
returns-clause-call c m tied =
    let read = c.in_ok-program.ensures.read m tied in
    subst (λ (call : CallResult). ReturnsDoneOrRefused m call c.start_anew.result c.start_anew.new.s) (sym (read.goes (starts_anew m c.args.p.0)))
    (c.start_anew.ensures.call m read.entry (c.read_program.ensures.same.represents m tied) read.is)
