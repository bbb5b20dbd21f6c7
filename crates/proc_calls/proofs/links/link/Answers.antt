use Rattle.std.proofs.Common.{sym, subst, ap, ◌∙◌}
use Rattle.std.proofs.lemmas.Result.{err_from_is_err_and}
use Rattle.proc_model.specs.CallResult.{CallResult}
use Rattle.proc_model.specs.Link.{f_link}
use Rattle.proc_state.specs.Tie.{ReturnsDoneOrRefused}
use Rattle.proc_calls.specs.Linked.{entered_as, links_entered}
use Rattle.proc_calls.proofs.Linking.{link_next}
use Rattle.proc_calls.proofs.Steps.{refused-answers}
use Rattle.proc_calls.proofs.links.link.Goals as goal

pub returns-in_err-id-clause-call : goal.returns-in_err-id-clause-call
returns-in_err-id-clause-call c =
    λ m tied.
    let p = c.args.p.0 in
    refused-answers m (f_link m p) c.in_err-id.field-0.0 c.from_residual.result c.named_module.new.s
    (err_from_is_err_and c.from_residual.result c.from_residual.ensures.1)
    (c.in_err-id.ensures.named m tied (link_next m p)) (c.named_module.ensures.same.represents m tied)

pub returns-clause-call : goal.returns-clause-call
returns-clause-call c =
    λ m tied.
    let p = c.args.p.0 in
    let id = c.in_ok-id.id in
    let named = c.in_ok-id.ensures.named m tied in
    let stood = c.named_module.ensures.same.represents m tied in
    subst (λ (call : CallResult). ReturnsDoneOrRefused m call c.link_module.result c.link_module.new.s)
    (ap (links_entered m p (entered_as id named.entry)) (c.from.ensures ∙ sym named.long) ∙ sym (named.goes (link_next m p)))
    (c.link_module.ensures.call m named.entry stood named.is)
