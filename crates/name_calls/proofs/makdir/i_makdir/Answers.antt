use Rattle.std.proofs.Common.{ap, length, sym, vec_len}
use Rattle.file_rules.specs.Attempts.{asker_of}
use Rattle.file_rules.specs.MakDir.{i_makdir}
use Rattle.file_rules.specs.declared.path_call.PathCall.TheVariants as Call
use Rattle.file_state.proofs.KeepLemmas.{ends-attempt}
use Rattle.name_calls.specs.ListCalls.{i_makdir_calls}
use Rattle.name_calls.proofs.TryLemmas.{tries-same}
use Rattle.name_calls.proofs.makdir.i_makdir.Goals as goal

pub returns-clause-call : goal.returns-clause-call
returns-clause-call g c terms many m was tied stands kinds =
    let asker = asker_of m c.args.by.p.0 c.args.by.time in
    let terminals = vec_len c.args.devices.now.terms in
    let step = i_makdir asker was (length terms) in
    let most = i_makdir_calls asker was (length terms) in
    ends-attempt most Call.MakDir m was c.args.by.time c.args.by.p.0 c.end_call.result terms _ _
    (c.end_call.ensures.ends step most m was c.args.by.time terms _ _ (c.make_directory-came.ensures.same.represents m tied)
    (tries-same (i_makdir asker was terminals) step (i_makdir_calls asker was terminals) most asker was _ _ _ _
    (ap (i_makdir asker was) (sym many)) (ap (i_makdir_calls asker was) (sym many))
    (c.make_directory-came.ensures.tries m was tied stands)))
