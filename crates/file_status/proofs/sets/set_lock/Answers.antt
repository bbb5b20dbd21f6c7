use Rattle.std.proofs.Common.{◌≡◌, ◌∙◌, not, None, [], ap, sym, subst, refl, eq-eqb}
use Rattle.std.proofs.lemmas.Bool.{ne_eqb}
use Rattle.os9_base.specs.declared.call.CallEnd.{CallEnd}
use Rattle.os9_base.specs.declared.registers.Regs.{Regs}
use Rattle.proc_model.specs.Processes.{Processes, regs_at, with_regs_of}
use Rattle.io_model.specs.Io.{with_call}
use Rattle.lock_model.specs.Records.{Records, holding}
use Rattle.lock_model.specs.declared.lock.Grant.TheVariants.{Granted}
use Rattle.proc_state.specs.Tie.{RepresentsProcesses}
use Rattle.rbf_access.specs.Reading.{IsFdOf}
use Rattle.io_state.proofs.RequesterLemmas.{called-regs}
use Rattle.file_rules.specs.Attempts.{asker_of}
use Rattle.file_rules.specs.Locking.{answer_in, answer_to, request_now}
use Rattle.file_rules.specs.Seek.{long_of}
use Rattle.file_rules.specs.Status.{lock_claim}
use Rattle.file_state.proofs.AskingLemmas.{granted-holds}
use Rattle.file_state.specs.Asking.{asked}
use Rattle.file_state.specs.declared.state.FileState.{FileState}
use Rattle.file_status.proofs.AskedLemmas.{answer-is, goes-on, granted-by, lock-requested, locking-asked, locking-failed, locking-held, locking-lacking, no-read-on}
use Rattle.file_status.proofs.DropLemmas.{lock-ended}
use Rattle.file_status.proofs.SetLemmas.{lock-stopped}
use Rattle.file_status.proofs.SizingLemmas.{if-err, if-ok}
use Rattle.file_status.proofs.StandLemmas.{uncalled-by, with_disks}
use Rattle.file_status.proofs.sets.set_lock.Goals as goal

pub returns-then-not-is_for_update-clause-call : goal.returns-then-not-is_for_update-clause-call
returns-then-not-is_for_update-clause-call g c now m was it terms tied stands open_is =
    lock-stopped m was now c.args.by.p.0 c.refuse.result c.args.machine.now.processes c.args.machine.now.files _ _ terms c.args.opened.now it _ stands
    open_is (uncalled-by c.args.machine.now.files c.args.by.p.0 c.refuse.ensures.io) c.refuse.ensures.end tied
    (ap not (sym c.is_for_update.ensures ∙ c.if-not-is_for_update.true))

pub returns-then-count-eq0-clause-call : goal.returns-then-count-eq0-clause-call
returns-then-count-eq0-clause-call g c now m was it terms tied stands open_is =
    let p = c.args.by.p.0 in
    let same : c.args.by.regs ≡ regs_at m p = called-regs c.args.by c.args.machine.now.processes m c.requires.calls.calls tied in
    let none : long_of (regs_at m p) ≡ 0 = ap long_of (sym same) ∙ sym c.long_of-count.ensures ∙ c.if-count-eq0.true in
    lock-ended 1 m was now p c.end_lock.result c.end_lock.new.machine.processes c.args.machine.now.files c.end_lock.new.machine.files _ terms c.args.opened.now it stands open_is
    (sym c.is_for_update.ensures ∙ c.if-not-is_for_update.false) (eq-eqb (long_of (regs_at m p)) 0 none)
    c.end_lock.ensures.files c.end_lock.ensures.end
    (subst (λ (r : Regs). RepresentsProcesses c.end_lock.new.machine.processes (with_regs_of m p r)) same (c.end_lock.ensures.tied m tied))

pub returns-in-Err-clause-call : goal.returns-in-Err-clause-call
returns-in-Err-clause-call g c now m was it terms tied stands open_is =
    let p = c.args.by.p.0 in
    let same : c.args.by.regs ≡ regs_at m p = called-regs c.args.by c.args.machine.now.processes m c.requires.calls.calls tied in
    let some : long_of (regs_at m p) ≡ 0 → ⊥ = λ none. c.if-count-eq0.false (c.long_of-count.ensures ∙ ap long_of same ∙ none) in
    locking-failed m was now p c.refuse-in-Err.result c.args.machine.now.processes c.args.machine.now.files _ _ _ terms c.fd.new.self c.args.opened.now it stands open_is
    (sym c.is_for_update.ensures ∙ c.if-not-is_for_update.false) (ne_eqb (long_of (regs_at m p)) 0 some)
    c.in-Err.fault c.in-Err.ensures.drive c.in-Err.ensures.device (c.refuse-in-Err.ensures.end ∙ ap (λ n. CallEnd.Error n) c.number.ensures) tied
    (uncalled-by (with_disks c.args.machine.now.files c.fd.new.self) p c.refuse-in-Err.ensures.io)

pub returns-in-Some-clause-call : goal.returns-in-Some-clause-call
returns-in-Some-clause-call g c now m was it terms tied stands open_is =
    let p = c.args.by.p.0 in
    let request = c.request_now-request.result in
    let fd : IsFdOf it.file c.in-Ok.fd = c.in-Ok.ensures.ok was.volumes it.volume it.file stands.mounted open_is.volume_is open_is.file_is in
    let locks : was.records.locks ≡ c.args.machine.now.files.records.locks = ap (λ (r : Records). r.locks) stands.records in
    let tick : m.tick ≡ c.args.machine.now.processes.tick = ap (λ (i : Processes). i.tick) tied.is in
    let count : c.long_of-count.result ≡ long_of (regs_at m p) = c.long_of-count.ensures ∙ ap long_of (called-regs c.args.by c.args.machine.now.processes m c.requires.calls.calls tied) in
    let some : long_of (regs_at m p) ≡ 0 → ⊥ = λ none. c.if-count-eq0.false (count ∙ none) in
    let same : request_now (asker_of m p now) was it (lock_claim it (long_of (regs_at m p))) ≡ request =
    lock-requested m was now c.args.by.p c.args.opened.now it c.args.machine.now.files.records.locks c.args.machine.now.processes.tick open_is
    locks tick c.in-Ok.fd fd c.long_of-count.result count c.status_claim-claim.result request
    c.request_now-request.ensures.request c.range_locked.result c.range_locked.ensures c.status_claim-claim.ensures in
    let answer : answer_to (asker_of m p now) was request ≡ answer_in c.args.machine.now.files.records.locks p c.args.machine.now.processes.tick request =
    answer-is m was now c.args.by.p c.args.opened.now it c.args.machine.now.files.records.locks c.args.machine.now.processes.tick open_is locks tick request in
    locking-asked m was now p c.in-Some.end c.args.machine.now.processes c.args.machine.now.files c.ask.new.self _ _ terms c.fd.new.self
    c.args.opened.now it stands open_is
    (sym c.is_for_update.ensures ∙ c.if-not-is_for_update.false) (ne_eqb (long_of (regs_at m p)) 0 some) request same
    c.in-Ok.ensures.drive c.request_now-request.ensures.own.owner _ answer c.in-Some.ensures.end tied c.ask.ensures.state

pub hold-requires-clause-may : goal.hold-requires-clause-may
hold-requires-clause-may g c = granted-holds c.ask.new.self.records.locks c.request_now-request.result.lock (c.ask.ensures.granted c.in_default.is)

pub returns-then-is_err-clause-call : goal.returns-then-is_err-clause-call
returns-then-is_err-clause-call g c now m was it terms tied stands open_is =
    let p = c.args.by.p.0 in
    let request = c.request_now-request.result in
    let fd : IsFdOf it.file c.in-Ok.fd = c.in-Ok.ensures.ok was.volumes it.volume it.file stands.mounted open_is.volume_is open_is.file_is in
    let locks : was.records.locks ≡ c.args.machine.now.files.records.locks = ap (λ (r : Records). r.locks) stands.records in
    let tick : m.tick ≡ c.args.machine.now.processes.tick = ap (λ (i : Processes). i.tick) tied.is in
    let count : c.long_of-count.result ≡ long_of (regs_at m p) = c.long_of-count.ensures ∙ ap long_of (called-regs c.args.by c.args.machine.now.processes m c.requires.calls.calls tied) in
    let some : long_of (regs_at m p) ≡ 0 → ⊥ = λ none. c.if-count-eq0.false (count ∙ none) in
    let same : request_now (asker_of m p now) was it (lock_claim it (long_of (regs_at m p))) ≡ request =
    lock-requested m was now c.args.by.p c.args.opened.now it c.args.machine.now.files.records.locks c.args.machine.now.processes.tick open_is
    locks tick c.in-Ok.fd fd c.long_of-count.result count c.status_claim-claim.result request
    c.request_now-request.ensures.request c.range_locked.result c.range_locked.ensures c.status_claim-claim.ensures in
    let answer : answer_to (asker_of m p now) was request ≡ answer_in c.args.machine.now.files.records.locks p c.args.machine.now.processes.tick request =
    answer-is m was now c.args.by.p c.args.opened.now it c.args.machine.now.files.records.locks c.args.machine.now.processes.tick open_is locks tick request in
    let on : c.ask.new.self ≡ asked (with_disks c.args.machine.now.files c.fd.new.self) p request Granted =
    goes-on _ c.ask.new.self p request _ c.ask.ensures.state c.in_default.ensures.end in
    let lacks : c.hold.new.self ≡ c.ask.new.self.records = if-err c.hold.result c.hold.ensures.err (sym c.is_err.ensures.value ∙ c.if-is_err.true) in
    locking-lacking m was now p CallEnd.NoMemory c.args.machine.now.processes c.args.machine.now.files
    (record c.ask.new.self { records = c.hold.new.self }) _ _ terms c.fd.new.self c.args.opened.now it stands open_is
    (sym c.is_for_update.ensures ∙ c.if-not-is_for_update.false) (ne_eqb (long_of (regs_at m p)) 0 some) request same
    c.in-Ok.ensures.drive (answer ∙ granted-by _ c.in_default.ensures.end) refl
    (ap (λ (records : Records). let left : FileState = record c.ask.new.self { records = records } in left) lacks ∙ on)

pub answer-requires-clause-no_read : goal.answer-requires-clause-no_read
answer-requires-clause-no_read g c =
    no-read-on (with_disks c.args.machine.now.files c.fd.new.self) c.ask.new.self c.args.by.p.0 c.request_now-request.result
    (goes-on _ c.ask.new.self c.args.by.p.0 c.request_now-request.result _ c.ask.ensures.state c.in_default.ensures.end) c.requires.calls.no_read

pub returns-clause-call : goal.returns-clause-call
returns-clause-call g c now m was it terms tied stands open_is =
    let p = c.args.by.p.0 in
    let request = c.request_now-request.result in
    let fd : IsFdOf it.file c.in-Ok.fd = c.in-Ok.ensures.ok was.volumes it.volume it.file stands.mounted open_is.volume_is open_is.file_is in
    let locks : was.records.locks ≡ c.args.machine.now.files.records.locks = ap (λ (r : Records). r.locks) stands.records in
    let tick : m.tick ≡ c.args.machine.now.processes.tick = ap (λ (i : Processes). i.tick) tied.is in
    let count : c.long_of-count.result ≡ long_of (regs_at m p) = c.long_of-count.ensures ∙ ap long_of (called-regs c.args.by c.args.machine.now.processes m c.requires.calls.calls tied) in
    let some : long_of (regs_at m p) ≡ 0 → ⊥ = λ none. c.if-count-eq0.false (count ∙ none) in
    let same : request_now (asker_of m p now) was it (lock_claim it (long_of (regs_at m p))) ≡ request =
    lock-requested m was now c.args.by.p c.args.opened.now it c.args.machine.now.files.records.locks c.args.machine.now.processes.tick open_is
    locks tick c.in-Ok.fd fd c.long_of-count.result count c.status_claim-claim.result request
    c.request_now-request.ensures.request c.range_locked.result c.range_locked.ensures c.status_claim-claim.ensures in
    let answer : answer_to (asker_of m p now) was request ≡ answer_in c.args.machine.now.files.records.locks p c.args.machine.now.processes.tick request =
    answer-is m was now c.args.by.p c.args.opened.now it c.args.machine.now.files.records.locks c.args.machine.now.processes.tick open_is locks tick request in
    let on : c.ask.new.self ≡ asked (with_disks c.args.machine.now.files c.fd.new.self) p request Granted =
    goes-on _ c.ask.new.self p request _ c.ask.ensures.state c.in_default.ensures.end in
    let held = if-ok c.hold.result c.hold.ensures.ok (sym c.is_err.ensures.value ∙ c.if-is_err.false) in
    locking-held m was now p c.answer.result c.answer.new.s c.args.machine.now.files _ _ _ terms c.fd.new.self
    c.args.opened.now it stands open_is
    (sym c.is_for_update.ensures ∙ c.if-not-is_for_update.false) (ne_eqb (long_of (regs_at m p)) 0 some) request same
    c.in-Ok.ensures.drive (answer ∙ granted-by _ c.in_default.ensures.end) c.answer.ensures.end
    (subst (λ (r : Regs). RepresentsProcesses c.answer.new.s (with_regs_of m p r))
    (called-regs c.args.by c.args.machine.now.processes m c.requires.calls.calls tied) (c.answer.ensures.tied m tied))
    (uncalled-by (record c.ask.new.self { records = c.hold.new.self }) p c.answer.ensures.io
    ∙ ap (λ (records : Records). let left : FileState = record c.ask.new.self { io = with_call c.ask.new.self.io p None; records = records } in left) held
    ∙ ap (λ (state : FileState). let left : FileState = record state {
      io = with_call state.io p None;
      records = holding state.records c.args.opened.now.path.0 request.lock [];
    } in left) on)
