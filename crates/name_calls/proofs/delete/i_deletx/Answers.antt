use Rattle.std.proofs.Common.{◌≡◌, ◌∙◌, Bool, ap, length, sym, vec_len}
use Rattle.os9_base.specs.declared.registers.Regs.{Regs}
use Rattle.io_state.proofs.RequesterLemmas.{called-regs}
use Rattle.file_rules.specs.Attempts.{asker_of}
use Rattle.file_rules.specs.Delete.{deletes_by, i_deletx}
use Rattle.file_rules.specs.Open.{is_for_execution}
use Rattle.file_rules.specs.declared.path_call.PathCall.TheVariants as Call
use Rattle.file_state.proofs.KeepLemmas.{ends-attempt}
use Rattle.file_routes.specs.Routes.{refuses_by}
use Rattle.name_calls.specs.ListCalls.{deletes_by_calls, i_deletx_calls}
use Rattle.name_calls.proofs.DeleteLemmas.{deletx-parts}
use Rattle.name_calls.proofs.TryLemmas.{tries-same}
use Rattle.name_calls.proofs.delete.i_deletx.Goals as goal

pub returns-clause-call : goal.returns-clause-call
returns-clause-call g c now terms many m was tied stands kinds =
    let asker = asker_of m c.args.by.p.0 now in
    let terminals = vec_len c.args.devices.now.terms in
    let step = i_deletx asker was (length terms) in
    let most = i_deletx_calls asker was (length terms) in
    let execute_is : c.is_for_execution.result ≡ is_for_execution asker.caller.regs.a = c.is_for_execution.ensures ∙ ap (λ (regs : Regs). is_for_execution regs.a)
    (called-regs c.args.by c.args.machine.now.processes m c.requires.calls.calls tied) in
    ends-attempt most Call.DeletX m was now c.args.by.p.0 c.end_call.result terms _ _
    (c.end_call.ensures.ends step most m was now terms _ _ (c.delete_named-came.ensures.same.represents m tied)
    (tries-same (deletes_by asker was terminals c.is_for_execution.result (refuses_by c.mode_refusal-refusal.result))
    step (deletes_by_calls c.is_for_execution.result asker was terminals) most asker was _ _ _ _
    (deletx-parts asker was terminals c.args.by.regs c.is_for_execution.result c.is_mode.result
    c.mode_refusal-refusal.result (called-regs c.args.by c.args.machine.now.processes m c.requires.calls.calls tied) c.is_for_execution.ensures c.is_mode.ensures
    c.mode_refusal-refusal.ensures ∙ ap (i_deletx asker was) (sym many))
    (ap (λ (e : Bool). deletes_by_calls e asker was terminals) execute_is ∙ ap (i_deletx_calls asker was) (sym many))
    (c.delete_named-came.ensures.tries now m was tied stands)))
