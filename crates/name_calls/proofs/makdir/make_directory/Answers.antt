use Rattle.std.proofs.Common.{false, None, ap, refl, sym, vec_len}
use Rattle.os9_base.specs.declared.registers.Regs.{Regs}
use Rattle.io_state.proofs.RequesterLemmas.{called-regs}
use Rattle.file_rules.specs.Attempts.{asker_of}
use Rattle.file_rules.specs.MakDir.{i_makdir}
use Rattle.file_routes.specs.Routes.{next_step}
use Rattle.file_routes.specs.declared.route.Purpose.TheVariants.{New}
use Rattle.name_calls.specs.ListCalls.{i_makdir_calls, making_calls, named_calls}
use Rattle.name_calls.specs.MakDir.{makes_it, makes_it_calls}
use Rattle.name_calls.specs.Naming.{IsNameLocated, names_last}
use Rattle.name_calls.proofs.ListCallLemmas.{named-seen, named-within}
use Rattle.name_calls.proofs.LookLemmas.{found}
use Rattle.name_calls.proofs.MakDirLemmas.{makdir-parts}
use Rattle.name_calls.proofs.MakingLemmas.{makes-quiet}
use Rattle.name_calls.proofs.SameLemmas.{user-is}
use Rattle.name_calls.proofs.TryLemmas.{tries-more, tries-same, tries-unfound}
use Rattle.name_calls.proofs.makdir.make_directory.Goals as goal

pub returns-in-Err-clause-tries : goal.returns-in-Err-clause-tries
returns-in-Err-clause-tries g c m was tied stands =
    let asker = asker_of m c.args.by.p.0 c.args.by.time in
    let terms = vec_len c.args.devices.now.terms in
    let look = names_last New false None asker was terms in
    let seen = named_calls New false (λ name v dir. 0) asker was terms in
    let most = i_makdir_calls asker was terms in
    tries-same (next_step look (makes_it asker was)) (i_makdir asker was terms) most most asker was _ _ _ _ (sym (makdir-parts asker was terms)) refl
    (tries-more (next_step look (makes_it asker was)) seen most asker was _ _ _ _ (named-seen New asker was terms false (making_calls asker.user))
    (tries-unfound (IsNameLocated New look was) look (makes_it asker was) seen asker was c.in-Err.number
    c.locate_last.new.machine.files _ _ (makes-quiet asker was) (c.in-Err.ensures.locates m was c.args.by.time tied stands)))

pub returns-in-Ok-clause-tries : goal.returns-in-Ok-clause-tries
returns-in-Ok-clause-tries g c m was tied stands =
    let asker = asker_of m c.args.by.p.0 c.args.by.time in
    let terms = vec_len c.args.devices.now.terms in
    let look = names_last New false None asker was terms in
    let seen = named_calls New false (λ name v dir. 0) asker was terms in
    let most = i_makdir_calls asker was terms in
    let loc = found (IsNameLocated New look was) look seen was c.in-Ok.located c.locate_last.new.machine.files _ _ (c.in-Ok.ensures.locates m was c.args.by.time tied stands) in
    tries-same (next_step look (makes_it asker was)) (i_makdir asker was terms) most most asker was _ _ _ _ (sym (makdir-parts asker was terms)) refl
    (tries-more (next_step look (makes_it asker was)) (makes_it_calls seen asker loc.it) most asker was _ _ _ _
    (named-within New asker was terms false (making_calls asker.user) loc.it None loc.answer)
    (c.make_in.ensures.makes look seen asker was _ (record {
      user_is = user-is c.args.machine.now.processes m c.args.by.p.0 c.user-user.result tied c.user-user.ensures.user;
      attributes_are = ap (λ (regs : Regs). regs.b) (sym (called-regs c.args.by c.args.machine.now.processes m c.requires.calls tied));
      now_is = refl;
    })
    loc))
