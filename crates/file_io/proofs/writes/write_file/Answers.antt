use Rattle.std.proofs.Common.{◌≡◌, ◌∙◌, ◌<◌, ℕ, Some, None, List, length, take, sym, ap, refl, subst, arith, rules}
use Rattle.std.proofs.lemmas.List.{length-take-le}
use Rattle.os9_base.specs.declared.call.CallEnd.{CallEnd}
use Rattle.proc_model.specs.Processes.{Processes}
use Rattle.io_model.specs.Io.{Io}
use Rattle.lock_model.specs.Records.{Records, with_waiting}
use Rattle.lock_model.specs.declared.lock.Grant.TheVariants.{Granted}
use Rattle.lock_model.specs.declared.lock.Request.{Request}
use Rattle.rbf_model.specs.File.{DiskFile}
use Rattle.rbf_model.specs.Volume.{DiskVolume}
use Rattle.file_rules.specs.Attempts.{asker_of}
use Rattle.file_rules.specs.Locking.{answer_in, answer_to, request_now}
use Rattle.file_rules.specs.Write.{write_claim}
use Rattle.file_state.proofs.CountLemmas.{called-read}
use Rattle.file_state.proofs.ReachedLemmas.{file-there, has-read}
use Rattle.file_state.proofs.RequestLemmas.{IsFault, fault-of, granted-stands, same-answer}
use Rattle.file_state.specs.Asking.{asked}
use Rattle.file_state.specs.declared.state.FileState.{FileState}
use Rattle.file_io.proofs.ClaimLemmas.{as-fault, data-stays, goes-on}
use Rattle.file_io.proofs.SendingLemmas.{sending-asks, sending-fails, sending-goes, write-request}
use Rattle.file_io.specs.Opened.{found_on}
use Rattle.file_io.proofs.writes.write_file.Goals as goal
use Rattle.io_state.specs.Sound.{ReadsNoTerminal}

pub returns-in-Err-clause-call : goal.returns-in-Err-clause-call
returns-in-Err-clause-call g c m was v file terms tied stands is there =
    let p = c.args.by.p.0 in
    let opened = c.args.opened.now in
    let count = c.args.sent.count in
    let bytes : List ℕ = take count c.args.machine.now.processes.buffer.items in
    let long : length bytes ≡ count = length-take-le count c.args.machine.now.processes.buffer.items (omega arith) in
    let some : 0 < length bytes = omega (arith, long, c.requires.sends.some) in
    let mid : FileState = record c.args.machine.now.files { disks = c.size.new.self } in
    let calls : DiskVolume → DiskFile → ℕ = λ v file. 1 in
    let fault : IsFault _ c.in-Err.fault = fault-of c.size.result c.in-Err.fault c.in-Err.is c.size.ensures.device in
    let drive = as-fault opened.place _ fault.number calls c.args.machine.now.files.disks c.size.new.self _ _ fault.is c.size.ensures.drive in
    let called = called-read c.args.machine.now.files mid _ _ was opened.place v file (Some fault.number) calls stands is there drive in
    sending-fails c.args.sent.code bytes c.args.sent.done m was v file c.args.by.time p opened is there some _ _ terms mid called stands.drives count long
    c.refuse.result c.args.machine.now.processes (record mid { io = c.refuse.new.io }) fault.number
    (has-read c.args.machine.now.files mid _ _ was opened.place file (Some fault.number) calls stands (file-there was opened.place v file is there) refl refl refl drive)
    (c.refuse.ensures.end ∙ ap (λ (n : ℕ). CallEnd.Error n) (c.number.ensures ∙ fault.answer)) tied
    (ap (λ (io : Io). record mid { io = io }) c.refuse.ensures.io)
    (ap (λ (records : Records). with_waiting records p None) stands.records)

pub returns-in-Some-clause-call : goal.returns-in-Some-clause-call
returns-in-Some-clause-call g c m was v file terms tied stands is there =
    let p = c.args.by.p.0 in
    let opened = c.args.opened.now in
    let count = c.args.sent.count in
    let code = c.args.sent.code in
    let bytes : List ℕ = take count c.args.machine.now.processes.buffer.items in
    let long : length bytes ≡ count = length-take-le count c.args.machine.now.processes.buffer.items (omega arith) in
    let some : 0 < length bytes = omega (arith, long, c.requires.sends.some) in
    let mid : FileState = record c.args.machine.now.files { disks = c.size.new.self } in
    let calls : DiskVolume → DiskFile → ℕ = λ v file. 1 in
    let called = called-read c.args.machine.now.files mid _ _ was opened.place v file None calls stands is there c.in-Ok.ensures.drive in
    let read = has-read c.args.machine.now.files mid _ _ was opened.place file None calls stands (file-there was opened.place v file is there) refl refl refl c.in-Ok.ensures.drive in
    let locks = c.args.machine.now.files.records.locks in
    let tick = c.args.machine.now.processes.tick in
    let locks_are : was.records.locks ≡ locks = ap (λ (records : Records). records.locks) stands.records in
    let tick_is : m.tick ≡ tick = ap (λ (i : Processes). i.tick) tied.is in
    let found = found_on opened v file in
    let asker = asker_of m p c.args.by.time in
    let request = c.request_now-request.result in
    let grant = answer_in locks p tick request in
    let same : request_now asker was found (write_claim found code (length bytes)) ≡ request =
    write-request m was c.args.by.time c.args.by.p opened v file code bytes count c.in-Ok.size c.from.result c.range_of.result locks tick request long locks_are tick_is
    (c.in-Ok.ensures.ok was.volumes v file stands.mounted is there) c.from.ensures c.range_of.ensures c.request_now-request.ensures.request in
    sending-asks code bytes c.args.sent.done m was v file c.args.by.time p opened is there some _ _ terms mid called stands.drives count long c.in-Some.end c.args.machine.now.processes c.ask.new.self
    (ap (λ (r : Request). r.lock.owner.0) same ∙ c.request_now-request.ensures.own.owner) read grant
    (ap (answer_to asker was) same
    ∙ same-answer m was c.args.by.time c.args.by.p found opened locks tick refl refl locks_are tick_is request)
    c.in-Some.ensures.end tied
    (c.in-Some.ensures.state ∙ ap (λ (r : Request). asked mid p r grant) (sym same))

pub write_granted-requires-clause-calls : goal.write_granted-requires-clause-calls
write_granted-requires-clause-calls g c =
    let p = c.args.by.p.0 in
    let mid : FileState = record c.args.machine.now.files { disks = c.size.new.self } in
    let request = c.request_now-request.result in
    let grant = answer_in c.args.machine.now.files.records.locks p c.args.machine.now.processes.tick request in
    let granted : grant ≡ Granted = goes-on grant (λ end is. c.in_default.not-Some end (c.ask.ensures.end ∙ is)) in
    let went : c.ask.new.self ≡ asked mid p request Granted = c.ask.ensures.state ∙ ap (asked mid p request) granted in
    record {
      calls = record { lives = search rules; regs = search rules };
      no_read = subst (λ (state : FileState). ReadsNoTerminal state.io p) (sym went) c.requires.calls.no_read;
    }

pub write_granted-requires-clause-file : goal.write_granted-requires-clause-file
write_granted-requires-clause-file g c =
    let p = c.args.by.p.0 in
    let place = c.args.opened.now.place in
    let mid : FileState = record c.args.machine.now.files { disks = c.size.new.self } in
    let request = c.request_now-request.result in
    let grant = answer_in c.args.machine.now.files.records.locks p c.args.machine.now.processes.tick request in
    let granted : grant ≡ Granted = goes-on grant (λ end is. c.in_default.not-Some end (c.ask.ensures.end ∙ is)) in
    let went : c.ask.new.self ≡ asked mid p request Granted = c.ask.ensures.state ∙ ap (asked mid p request) granted in
    data-stays place None (λ (v : DiskVolume) (file : DiskFile). 1) c.args.machine.now.files.disks c.size.new.self c.ask.new.self.disks _ _
    (ap (λ (state : FileState). state.disks) went) c.requires.file c.in-Ok.ensures.drive

pub returns-clause-call : goal.returns-clause-call
returns-clause-call g c m was v file terms tied stands is there =
    let p = c.args.by.p.0 in
    let opened = c.args.opened.now in
    let count = c.args.sent.count in
    let code = c.args.sent.code in
    let done = c.args.sent.done in
    let bytes : List ℕ = take count c.args.machine.now.processes.buffer.items in
    let long : length bytes ≡ count = length-take-le count c.args.machine.now.processes.buffer.items (omega arith) in
    let some : 0 < length bytes = omega (arith, long, c.requires.sends.some) in
    let mid : FileState = record c.args.machine.now.files { disks = c.size.new.self } in
    let calls : DiskVolume → DiskFile → ℕ = λ v file. 1 in
    let called = called-read c.args.machine.now.files mid _ _ was opened.place v file None calls stands is there c.in-Ok.ensures.drive in
    let read = has-read c.args.machine.now.files mid _ _ was opened.place file None calls stands (file-there was opened.place v file is there) refl refl refl c.in-Ok.ensures.drive in
    let locks = c.args.machine.now.files.records.locks in
    let tick = c.args.machine.now.processes.tick in
    let locks_are : was.records.locks ≡ locks = ap (λ (records : Records). records.locks) stands.records in
    let tick_is : m.tick ≡ tick = ap (λ (i : Processes). i.tick) tied.is in
    let found = found_on opened v file in
    let asker = asker_of m p c.args.by.time in
    let request = c.request_now-request.result in
    let grant = answer_in locks p tick request in
    let same : request_now asker was found (write_claim found code (length bytes)) ≡ request =
    write-request m was c.args.by.time c.args.by.p opened v file code bytes count c.in-Ok.size c.from.result c.range_of.result locks tick request long locks_are tick_is
    (c.in-Ok.ensures.ok was.volumes v file stands.mounted is there) c.from.ensures c.range_of.ensures c.request_now-request.ensures.request in
    let granted : grant ≡ Granted = goes-on grant (λ end is. c.in_default.not-Some end (c.ask.ensures.end ∙ is)) in
    let went : c.ask.new.self ≡ asked mid p request Granted = c.ask.ensures.state ∙ ap (asked mid p request) granted in
    sending-goes code bytes done m was v file c.args.by.time p opened is there some _ _ terms mid called stands.drives count long c.write_granted.result
    c.write_granted.new.machine.processes c.write_granted.new.machine.files _ request same
    (ap (answer_to asker was) same
    ∙ same-answer m was c.args.by.time c.args.by.p found opened locks tick refl refl locks_are tick_is request ∙ granted)
    read
    (c.write_granted.ensures.call m was v file terms tied (granted-stands p was request opened.place.drive mid c.ask.new.self _ _ read went) is there)
