use Rattle.std.proofs.Common.{refl, sym, vec_len}
use Rattle.file_rules.specs.Attempts.{asker_of}
use Rattle.file_rules.specs.Delete.{deletes_by}
use Rattle.file_routes.specs.Routes.{next_step, refuses_by}
use Rattle.file_routes.specs.declared.route.Purpose.TheVariants.{Existing}
use Rattle.name_calls.specs.ListCalls.{deletes_by_calls, deleting_calls, named_calls}
use Rattle.name_calls.specs.Delete.{deletes_it, deletes_it_calls}
use Rattle.name_calls.specs.Naming.{IsNameLocated, names_last}
use Rattle.name_calls.proofs.DeleteLemmas.{deletes-parts}
use Rattle.name_calls.proofs.DeletingLemmas.{deletes-quiet}
use Rattle.name_calls.proofs.ListCallLemmas.{named-seen, named-within}
use Rattle.name_calls.proofs.LookLemmas.{found}
use Rattle.name_calls.proofs.SameLemmas.{user-is}
use Rattle.name_calls.proofs.TryLemmas.{tries-more, tries-same, tries-unfound}
use Rattle.name_calls.proofs.delete.delete_named.Goals as goal

pub returns-in-Err-clause-tries : goal.returns-in-Err-clause-tries
returns-in-Err-clause-tries g c now m was tied stands =
    let asker = asker_of m c.args.by.p.0 now in
    let terms = vec_len c.args.devices.now.terms in
    let look = names_last Existing c.args.lookup.execute c.args.lookup.refusal asker was terms in
    let seen = named_calls Existing c.args.lookup.execute (λ name v dir. 0) asker was terms in
    let most = deletes_by_calls c.args.lookup.execute asker was terms in
    tries-same (next_step look (deletes_it asker was c.args.lookup.execute)) (deletes_by asker was terms c.args.lookup.execute
    (refuses_by c.args.lookup.refusal)) most most asker was _ _ _ _
    (sym (deletes-parts asker was c.args.lookup.execute terms c.args.lookup.refusal)) refl
    (tries-more (next_step look (deletes_it asker was c.args.lookup.execute)) seen most asker was _ _ _ _ (named-seen Existing asker was terms c.args.lookup.execute
    (deleting_calls asker.user c.args.lookup.execute))
    (tries-unfound (IsNameLocated Existing look was) look (deletes_it asker was c.args.lookup.execute) seen asker was
    c.in-Err.number c.locate_last.new.machine.files _ _ (deletes-quiet asker was c.args.lookup.execute)
    (c.in-Err.ensures.locates m was now tied stands)))

pub returns-in-Ok-clause-tries : goal.returns-in-Ok-clause-tries
returns-in-Ok-clause-tries g c now m was tied stands =
    let asker = asker_of m c.args.by.p.0 now in
    let terms = vec_len c.args.devices.now.terms in
    let look = names_last Existing c.args.lookup.execute c.args.lookup.refusal asker was terms in
    let seen = named_calls Existing c.args.lookup.execute (λ name v dir. 0) asker was terms in
    let most = deletes_by_calls c.args.lookup.execute asker was terms in
    let loc = found (IsNameLocated Existing look was) look seen was c.in-Ok.located c.locate_last.new.machine.files _ _ (c.in-Ok.ensures.locates m was now tied stands) in
    tries-same (next_step look (deletes_it asker was c.args.lookup.execute)) (deletes_by asker was terms c.args.lookup.execute
    (refuses_by c.args.lookup.refusal)) most most asker was _ _ _ _
    (sym (deletes-parts asker was c.args.lookup.execute terms c.args.lookup.refusal)) refl
    (tries-more (next_step look (deletes_it asker was c.args.lookup.execute)) (deletes_it_calls seen asker c.args.lookup.execute
    loc.it) most asker was _ _ _ _ (named-within Existing asker was terms c.args.lookup.execute
    (deleting_calls asker.user c.args.lookup.execute) loc.it c.args.lookup.refusal loc.answer)
    (c.delete_in.ensures.deletes look seen asker was _ (user-is c.args.machine.now.processes m c.args.by.p.0 c.user-user.result tied c.user-user.ensures.user) loc))
