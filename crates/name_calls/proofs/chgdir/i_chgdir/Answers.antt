use Rattle.std.proofs.Common.{◌≡◌, ◌∙◌, ◌%◌, ap, length, refl, sym, vec_len}
use Rattle.os9_base.specs.declared.registers.Regs.{Regs}
use Rattle.proc_model.specs.Processes.{regs_at}
use Rattle.io_state.proofs.RequesterLemmas.{called-regs}
use Rattle.file_rules.specs.Attempts.{asker_of}
use Rattle.file_rules.specs.ChgDir.{i_chgdir}
use Rattle.file_rules.specs.Files.{directories_at, with_directories_of, with_directory}
use Rattle.file_rules.specs.Open.{is_for_execution}
use Rattle.file_rules.specs.declared.path_call.PathCall.TheVariants as Call
use Rattle.file_state.proofs.KeepLemmas.{ends-attempt}
use Rattle.file_routes.specs.Routes.{next_step}
use Rattle.name_calls.specs.ListCalls.{i_chgdir_calls}
use Rattle.name_calls.specs.ChgDir.{goes_there, looks_for_directory}
use Rattle.name_calls.specs.Locating.{IsLocated}
use Rattle.name_calls.proofs.AttemptLemmas.{ends-refused}
use Rattle.name_calls.proofs.ChgDirLemmas.{chgdir-parts, gone-there, told-past}
use Rattle.name_calls.proofs.ListEndLemmas.{ends-found}
use Rattle.name_calls.proofs.FoundLemmas.{locates-same}
use Rattle.name_calls.proofs.LookLemmas.{found}
use Rattle.name_calls.proofs.TryLemmas.{tries-same, tries-unfound}
use Rattle.name_calls.proofs.chgdir.i_chgdir.Goals as goal

pub returns-in-Err-clause-call : goal.returns-in-Err-clause-call
returns-in-Err-clause-call g c now terms many m was tied stands kinds =
    let asker = asker_of m c.args.by.p.0 now in
    let terminals = vec_len c.args.devices.now.terms in
    let look = looks_for_directory asker was (length terms) in
    let most = i_chgdir_calls asker was (length terms) in
    ends-attempt most Call.ChgDir m was now c.args.by.p.0 c.refuse.result terms _ _
    (ends-refused (i_chgdir asker was (length terms)) most m was now c.args.by.p.0 terms c.find_directory.new.machine.files _ _
    c.refuse.result c.find_directory.new.machine.processes c.refuse.new.io c.refuse.ensures.io c.in-Err.number
    c.refuse.ensures.end (c.find_directory.ensures.same.represents m tied)
    (tries-same (next_step look (goes_there asker was)) (i_chgdir asker was (length terms)) most most asker was _ _ _ _ (sym (chgdir-parts asker was (length terms))) refl
    (tries-unfound (IsLocated look was) look (goes_there asker was) most asker was c.in-Err.number c.find_directory.new.machine.files _ _ (λ it. tt)
    (locates-same (looks_for_directory asker was terminals) look (i_chgdir_calls asker was terminals) most _ was _ _ _
    (ap (looks_for_directory asker was) (sym many)) (ap (i_chgdir_calls asker was) (sym many))
    (c.in-Err.ensures.finds m was now tied stands)))))

pub returns-in-Ok-clause-call : goal.returns-in-Ok-clause-call
returns-in-Ok-clause-call g c now terms many m was tied stands kinds =
    let p = c.args.by.p.0 in
    let asker = asker_of m p now in
    let terminals = vec_len c.args.devices.now.terms in
    let look = looks_for_directory asker was (length terms) in
    let most = i_chgdir_calls asker was (length terms) in
    let mid = c.find_directory.new.machine.files in
    let loc = found (IsLocated look was) look most was c.in-Ok.located mid _ _
    (locates-same (looks_for_directory asker was terminals) look (i_chgdir_calls asker was terminals) most _ was _
    _ _ (ap (looks_for_directory asker was) (sym many)) (ap (i_chgdir_calls asker was) (sym many))
    (c.in-Ok.ensures.finds m was now tied stands)) in
    let regs_is : c.args.by.regs ≡ regs_at m p = called-regs c.args.by c.args.machine.now.processes m c.requires.calls.calls tied in
    let regs : Regs = record (regs_at m p) { x = loc.it.list.next % 65536 } in
    ends-attempt most Call.ChgDir m was now p c.answer-end.result terms _ _
    (ends-found (IsLocated look was) look (goes_there asker was) most m was now p terms c.in-Ok.located mid _ _ loc (i_chgdir asker was (length terms)) regs
    (with_directories_of was p (with_directory (directories_at was p) (is_for_execution (regs_at m p).a) loc.it.found.place))
    _ _ c.answer-end.new.s (chgdir-parts asker was (length terms)) refl
    (gone-there mid _ _ was p regs c.answer-end.new.io c.is_for_execution-execute.result (is_for_execution (regs_at m p).a) c.in-Ok.located.place loc.it.found.place c.answer-end.ensures.io
    (c.is_for_execution-execute.ensures ∙ ap (λ (regs : Regs). is_for_execution regs.a) regs_is) loc.is.place_is loc.read.stands c.set_directory.ensures)
    c.answer-end.ensures.end
    (told-past c.answer-end.new.s m p c.in-Ok.located.next loc.it.list.next c.args.by.regs regs_is loc.is.next_is (c.answer-end.ensures.tied m (c.find_directory.ensures.same.represents m tied))))
