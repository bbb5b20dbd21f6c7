use Rattle.std.proofs.Common.{◌≡◌, ◌∙◌, not, ap, sym, rules}
use Rattle.os9_base.specs.declared.call.CallEnd.{CallEnd}
use Rattle.proc_model.specs.Processes.{Processes, regs_at}
use Rattle.lock_model.specs.Records.{Records}
use Rattle.lock_model.specs.declared.lock.Grant.TheVariants.{Granted}
use Rattle.rbf_access.specs.Reading.{IsFdOf}
use Rattle.io_state.proofs.RequesterLemmas.{called-regs}
use Rattle.file_rules.specs.Attempts.{asker_of}
use Rattle.file_rules.specs.Locking.{answer_in, answer_to, request_now}
use Rattle.file_rules.specs.Seek.{long_of}
use Rattle.file_rules.specs.Status.{size_claim}
use Rattle.file_state.specs.Asking.{asked}
use Rattle.file_status.proofs.AskedLemmas.{answer-is, data-on, goes-on, granted-by, granted-on, no-read-on, size-requested, sizing-asked, sizing-failed, sizing-granted}
use Rattle.file_status.proofs.SetLemmas.{size-stopped}
use Rattle.file_status.proofs.StandLemmas.{uncalled-by, with_disks}
use Rattle.file_status.proofs.sets.set_size.Goals as goal

pub returns-then-not-can_write-clause-call : goal.returns-then-not-can_write-clause-call
returns-then-not-can_write-clause-call g c m was it terms tied stands open_is =
    size-stopped m was c.args.by.time c.args.by.p.0 c.refuse.result c.args.machine.now.processes c.args.machine.now.files _ _ terms
    c.args.opened.now it _ stands open_is (uncalled-by c.args.machine.now.files c.args.by.p.0 c.refuse.ensures.io) c.refuse.ensures.end tied
    (ap not (sym c.can_write.ensures ∙ c.if-not-can_write.true))

pub returns-in-Err-clause-call : goal.returns-in-Err-clause-call
returns-in-Err-clause-call g c m was it terms tied stands open_is =
    sizing-failed m was c.args.by.time c.args.by.p.0 c.refuse-in-Err.result c.args.machine.now.processes c.args.machine.now.files _ _ _ terms
    c.fd.new.self c.args.opened.now it stands open_is
    (sym c.can_write.ensures ∙ c.if-not-can_write.false)
    c.in-Err.fault c.in-Err.ensures.drive c.in-Err.ensures.device (c.refuse-in-Err.ensures.end ∙ ap (λ n. CallEnd.Error n) c.number.ensures) tied
    (uncalled-by (with_disks c.args.machine.now.files c.fd.new.self) c.args.by.p.0 c.refuse-in-Err.ensures.io)

pub returns-in-Some-clause-call : goal.returns-in-Some-clause-call
returns-in-Some-clause-call g c m was it terms tied stands open_is =
    let p = c.args.by.p.0 in
    let request = c.request_now-request.result in
    let fd : IsFdOf it.file c.in-Ok.fd = c.in-Ok.ensures.ok was.volumes it.volume it.file stands.mounted open_is.volume_is open_is.file_is in
    let locks : was.records.locks ≡ c.args.machine.now.files.records.locks = ap (λ (r : Records). r.locks) stands.records in
    let tick : m.tick ≡ c.args.machine.now.processes.tick = ap (λ (i : Processes). i.tick) tied.is in
    let same : request_now (asker_of m p c.args.by.time) was it (size_claim it (long_of (regs_at m p))) ≡ request =
    size-requested m was c.args.by.time c.args.by.p c.args.opened.now it c.args.machine.now.files.records.locks c.args.machine.now.processes.tick
    open_is locks tick c.in-Ok.fd fd c.long_of.result (c.long_of.ensures ∙ ap long_of (called-regs c.args.by c.args.machine.now.processes m c.requires.calls.calls tied))
    c.status_claim.result request c.request_now-request.ensures.request c.min.result c.min.ensures c.status_claim.ensures in
    let answer : answer_to (asker_of m p c.args.by.time) was request ≡ answer_in c.args.machine.now.files.records.locks p c.args.machine.now.processes.tick request =
    answer-is m was c.args.by.time c.args.by.p c.args.opened.now it c.args.machine.now.files.records.locks c.args.machine.now.processes.tick open_is locks tick request in
    sizing-asked m was c.args.by.time p c.in-Some.end c.args.machine.now.processes c.args.machine.now.files c.ask.new.self _ _ terms c.fd.new.self
    c.args.opened.now it stands open_is request same (sym c.can_write.ensures ∙ c.if-not-can_write.false)
    c.in-Ok.ensures.drive c.request_now-request.ensures.own.owner _ answer c.in-Some.ensures.end tied c.ask.ensures.state

pub size_granted-requires-clause-calls : goal.size_granted-requires-clause-calls
size_granted-requires-clause-calls g c = record {
  calls = record { lives = search rules; regs = search rules };
  no_read =
      no-read-on (with_disks c.args.machine.now.files c.fd.new.self) c.ask.new.self c.args.by.p.0 c.request_now-request.result
      (goes-on _ c.ask.new.self c.args.by.p.0 c.request_now-request.result _ c.ask.ensures.state c.in_default.ensures.end) c.requires.calls.no_read;
}

pub size_granted-requires-clause-file : goal.size_granted-requires-clause-file
size_granted-requires-clause-file g c =
    data-on c.args.opened.now.place c.args.machine.now.files c.ask.new.self c.args.by.p.0 c.request_now-request.result c.fd.new.self _ _
    (goes-on _ c.ask.new.self c.args.by.p.0 c.request_now-request.result _ c.ask.ensures.state c.in_default.ensures.end)
    c.in-Ok.ensures.drive (c.requires.written (sym c.can_write.ensures ∙ c.if-not-can_write.false))

pub returns-clause-call : goal.returns-clause-call
returns-clause-call g c m was it terms tied stands open_is =
    let p = c.args.by.p.0 in
    let request = c.request_now-request.result in
    let fd : IsFdOf it.file c.in-Ok.fd = c.in-Ok.ensures.ok was.volumes it.volume it.file stands.mounted open_is.volume_is open_is.file_is in
    let locks : was.records.locks ≡ c.args.machine.now.files.records.locks = ap (λ (r : Records). r.locks) stands.records in
    let tick : m.tick ≡ c.args.machine.now.processes.tick = ap (λ (i : Processes). i.tick) tied.is in
    let same : request_now (asker_of m p c.args.by.time) was it (size_claim it (long_of (regs_at m p))) ≡ request =
    size-requested m was c.args.by.time c.args.by.p c.args.opened.now it c.args.machine.now.files.records.locks c.args.machine.now.processes.tick
    open_is locks tick c.in-Ok.fd fd c.long_of.result (c.long_of.ensures ∙ ap long_of (called-regs c.args.by c.args.machine.now.processes m c.requires.calls.calls tied))
    c.status_claim.result request c.request_now-request.ensures.request c.min.result c.min.ensures c.status_claim.ensures in
    let answer : answer_to (asker_of m p c.args.by.time) was request ≡ answer_in c.args.machine.now.files.records.locks p c.args.machine.now.processes.tick request =
    answer-is m was c.args.by.time c.args.by.p c.args.opened.now it c.args.machine.now.files.records.locks c.args.machine.now.processes.tick open_is locks tick request in
    let on : c.ask.new.self ≡ asked (with_disks c.args.machine.now.files c.fd.new.self) p request Granted =
    goes-on _ c.ask.new.self p request _ c.ask.ensures.state c.in_default.ensures.end in
    sizing-granted m was c.args.by.time p c.size_granted.result c.size_granted.new.machine.processes c.args.machine.now.files c.size_granted.new.machine.files
    _ _ terms c.fd.new.self c.args.opened.now it stands open_is request same
    (sym c.can_write.ensures ∙ c.if-not-can_write.false) c.in-Ok.ensures.drive _ c.in-Ok.fd.size fd.size_is
    (answer ∙ granted-by _ c.in_default.ensures.end)
    (c.size_granted.ensures.call m was it terms tied
    (granted-on was p c.args.machine.now.files c.ask.new.self _ _ c.fd.new.self c.args.opened.now it request stands open_is
    c.in-Ok.ensures.drive on) open_is)
