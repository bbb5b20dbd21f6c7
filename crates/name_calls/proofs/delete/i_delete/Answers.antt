use Rattle.std.proofs.Common.{ap, length, sym, vec_len}
use Rattle.file_rules.specs.Attempts.{asker_of}
use Rattle.file_rules.specs.Delete.{i_delete}
use Rattle.file_rules.specs.declared.path_call.PathCall.TheVariants as Call
use Rattle.file_state.proofs.KeepLemmas.{ends-attempt}
use Rattle.name_calls.specs.ListCalls.{i_delete_calls}
use Rattle.name_calls.proofs.TryLemmas.{tries-same}
use Rattle.name_calls.proofs.delete.i_delete.Goals as goal

pub returns-clause-call : goal.returns-clause-call
returns-clause-call g c now terms many m was tied stands kinds =
    let asker = asker_of m c.args.by.p.0 now in
    let terminals = vec_len c.args.devices.now.terms in
    let step = i_delete asker was (length terms) in
    let most = i_delete_calls asker was (length terms) in
    ends-attempt most Call.Delete m was now c.args.by.p.0 c.end_call.result terms _ _
    (c.end_call.ensures.ends step most m was now terms _ _ (c.delete_named-came.ensures.same.represents m tied)
    (tries-same (i_delete asker was terminals) step (i_delete_calls asker was terminals) most asker was _ _ _ _
    (ap (i_delete asker was) (sym many)) (ap (i_delete_calls asker was) (sym many))
    (c.delete_named-came.ensures.tries now m was tied stands)))
