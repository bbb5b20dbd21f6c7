use Rattle.std.proofs.Common.{◌≡◌, ◌∙◌, ap, refl, sym, vec_len}
use Rattle.os9_base.specs.declared.registers.Regs.{Regs}
use Rattle.rbf_access.specs.Reading.{IsFdOf}
use Rattle.rbf_sector.specs.declared.fd.Fd.{Fd}
use Rattle.io_state.proofs.RequesterLemmas.{called-regs}
use Rattle.file_rules.specs.Attempts.{asker_of}
use Rattle.file_rules.specs.Open.{is_for_execution}
use Rattle.file_routes.specs.Routes.{next_step}
use Rattle.file_state.specs.declared.state.FileState.{FileState}
use Rattle.name_calls.specs.ListCalls.{i_chgdir_calls, located_calls}
use Rattle.name_calls.specs.ChgDir.{allows_to_go, looks_for_directory}
use Rattle.name_calls.specs.Locating.{IsLocated, locates}
use Rattle.name_calls.proofs.ChgDirLemmas.{chgdir-seen, chgdir-within, looks-same}
use Rattle.name_calls.proofs.FoundLemmas.{locates-same, of-found, read-failed, refuses-same, tested, unfound}
use Rattle.name_calls.proofs.LookLemmas.{found}
use Rattle.name_calls.proofs.SameLemmas.{user-is}
use Rattle.name_calls.proofs.chgdir.find_directory.Goals as goal

pub returns-in-Err-clause-finds : goal.returns-in-Err-clause-finds
returns-in-Err-clause-finds g c m was now tied stands =
    let asker = asker_of m c.args.by.p.0 now in
    let terms = vec_len c.args.devices.now.terms in
    let look = locates c.is_for_execution.result c.mode_refusal-refusal.result asker was terms in
    let seen = located_calls c.is_for_execution.result (λ v file. 0) asker was terms in
    let most = i_chgdir_calls asker was terms in
    let execute_is : c.is_for_execution.result ≡ is_for_execution asker.caller.regs.a = c.is_for_execution.ensures ∙ ap (λ (regs : Regs). is_for_execution regs.a)
    (called-regs c.args.by c.args.machine.now.processes m c.requires.calls tied) in
    locates-same (next_step look (allows_to_go asker)) (looks_for_directory asker was terms) most most _ was _ _ _
    (looks-same asker was terms c.args.by.regs c.is_for_execution.result c.is_mode.result
    c.mode_refusal-refusal.result (called-regs c.args.by c.args.machine.now.processes m c.requires.calls tied) c.is_for_execution.ensures c.is_mode.ensures
    c.mode_refusal-refusal.ensures) refl
    (unfound look (allows_to_go asker) seen most c.in-Err.number was c.locate.new.machine.files _ _
    (chgdir-seen asker was terms c.is_for_execution.result execute_is) (c.in-Err.ensures.locates m was now tied
    stands))

pub returns-in-Err-fd-clause-finds : goal.returns-in-Err-fd-clause-finds
returns-in-Err-fd-clause-finds g c m was now tied stands =
    let asker = asker_of m c.args.by.p.0 now in
    let terms = vec_len c.args.devices.now.terms in
    let look = locates c.is_for_execution.result c.mode_refusal-refusal.result asker was terms in
    let seen = located_calls c.is_for_execution.result (λ v file. 0) asker was terms in
    let most = i_chgdir_calls asker was terms in
    let execute_is : c.is_for_execution.result ≡ is_for_execution asker.caller.regs.a = c.is_for_execution.ensures ∙ ap (λ (regs : Regs). is_for_execution regs.a)
    (called-regs c.args.by c.args.machine.now.processes m c.requires.calls tied) in
    let mid = c.locate.new.machine.files in
    let new : FileState = record mid { disks = c.fd.new.self } in
    let loc = found (IsLocated look was) look seen was c.in-Ok.located mid _ _ (c.in-Ok.ensures.locates m was now tied stands) in
    let enough = chgdir-within asker was terms c.is_for_execution.result execute_is c.mode_refusal-refusal.result loc.it loc.answer in
    locates-same (next_step look (allows_to_go asker)) (looks_for_directory asker was terms) most most _ was _ _ _
    (looks-same asker was terms c.args.by.regs c.is_for_execution.result c.is_mode.result
    c.mode_refusal-refusal.result (called-regs c.args.by c.args.machine.now.processes m c.requires.calls tied) c.is_for_execution.ensures c.is_mode.ensures
    c.mode_refusal-refusal.ensures) refl
    (refuses-same (next_step look (allows_to_go asker)) most _ c.number.result was _ _ _ c.number.ensures
    (read-failed look seen was c.in-Ok.located mid new _ _ _ loc refl refl refl (allows_to_go asker) most enough Fd c.in-Err-fd.fault c.in-Err-fd.ensures.device c.in-Err-fd.ensures.drive))

pub returns-in-Ok-fd-clause-finds : goal.returns-in-Ok-fd-clause-finds
returns-in-Ok-fd-clause-finds g c m was now tied stands =
    let asker = asker_of m c.args.by.p.0 now in
    let terms = vec_len c.args.devices.now.terms in
    let look = locates c.is_for_execution.result c.mode_refusal-refusal.result asker was terms in
    let seen = located_calls c.is_for_execution.result (λ v file. 0) asker was terms in
    let most = i_chgdir_calls asker was terms in
    let execute_is : c.is_for_execution.result ≡ is_for_execution asker.caller.regs.a = c.is_for_execution.ensures ∙ ap (λ (regs : Regs). is_for_execution regs.a)
    (called-regs c.args.by c.args.machine.now.processes m c.requires.calls tied) in
    let mid = c.locate.new.machine.files in
    let new : FileState = record mid { disks = c.fd.new.self } in
    let loc = found (IsLocated look was) look seen was c.in-Ok.located mid _ _ (c.in-Ok.ensures.locates m was now tied stands) in
    let enough = chgdir-within asker was terms c.is_for_execution.result execute_is c.mode_refusal-refusal.result loc.it loc.answer in
    locates-same (next_step look (allows_to_go asker)) (looks_for_directory asker was terms) most most _ was _ _ _
    (looks-same asker was terms c.args.by.regs c.is_for_execution.result c.is_mode.result
    c.mode_refusal-refusal.result (called-regs c.args.by c.args.machine.now.processes m c.requires.calls tied) c.is_for_execution.ensures c.is_mode.ensures
    c.mode_refusal-refusal.ensures) refl
    (tested look seen was c.in-Ok.located mid new _ _ _ loc refl refl refl asker most enough c.in-Ok-fd.ensures.drive c.user-user.result c.args.by.regs.a c.if_directory.result
    (user-is c.args.machine.now.processes m c.args.by.p.0 c.user-user.result tied c.user-user.ensures.user)
    (ap (λ (regs : Regs). regs.a) (sym (called-regs c.args.by c.args.machine.now.processes m c.requires.calls tied)))
    (c.if_directory.ensures loc.it.found.file
    (of-found look seen was c.in-Ok.located mid _ _ loc (λ v file. IsFdOf file c.in-Ok-fd.fd) c.in-Ok-fd.ensures.ok)))
