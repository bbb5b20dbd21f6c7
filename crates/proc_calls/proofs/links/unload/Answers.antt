use Rattle.std.proofs.lemmas.Result.{err_from_is_err_and}
use Rattle.proc_model.specs.CallResult.{done}
use Rattle.proc_model.specs.ModuleLinks.{without_module_link}
use Rattle.proc_model.specs.UnLoad.{f_unload}
use Rattle.proc_calls.proofs.Steps.{refused-answers, done-answers}
use Rattle.proc_calls.proofs.links.unload.Goals as goal

pub returns-in_err-id-clause-call : goal.returns-in_err-id-clause-call
returns-in_err-id-clause-call c =
    λ m tied.
    let p = c.args.p.0 in
    refused-answers m (f_unload m p) c.in_err-id.field-0.0 c.from_residual.result c.named_module.new.s
    (err_from_is_err_and c.from_residual.result c.from_residual.ensures.1)
    (c.in_err-id.ensures.named m tied (λ name found. done (without_module_link m found.number))) (c.named_module.ensures.same.represents m tied)

pub returns-clause-call : goal.returns-clause-call
returns-clause-call c =
    λ m tied.
    let p = c.args.p.0 in
    done-answers m (f_unload m p) (without_module_link m c.in_ok-id.id.0) c.unlink_module.new.self
    ((c.in_ok-id.ensures.named m tied).goes (λ name found. done (without_module_link m found.number))) (c.unlink_module.ensures.tied m (c.named_module.ensures.same.represents m tied))
