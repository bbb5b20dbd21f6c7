use Rattle.std.proofs.Common.{◌≡◌, ◌∙◌, ℕ, nat_le, true, false, Some, None, length, sym, ap, refl, subst, arith, le-leb, rules}
use Rattle.os9_base.specs.declared.call.CallEnd.{CallEnd}
use Rattle.os9_base.specs.declared.registers.Regs.{Regs}
use Rattle.proc_model.specs.Processes.{Processes, regs_at}
use Rattle.io_model.specs.Io.{Io}
use Rattle.lock_model.specs.Laws.{Covers}
use Rattle.lock_model.specs.Locks.{Locks, request_of}
use Rattle.lock_model.specs.Records.{Records, with_waiting}
use Rattle.lock_model.specs.declared.lock.Grant.TheVariants.{Granted}
use Rattle.lock_model.specs.declared.lock.Request.{Request}
use Rattle.rbf_model.specs.File.{DiskFile}
use Rattle.rbf_model.specs.Volume.{DiskVolume}
use Rattle.file_rules.specs.Attempts.{asker_of}
use Rattle.file_rules.specs.Locking.{answer_in, answer_to, request_now, start_of}
use Rattle.file_rules.specs.Read.{read_claim}
use Rattle.file_state.proofs.CountLemmas.{called-read}
use Rattle.file_state.proofs.ReachedLemmas.{file-there, has-read}
use Rattle.file_state.proofs.RequestLemmas.{IsFault, fault-of, granted-stands, same-answer}
use Rattle.file_state.specs.Asking.{asked}
use Rattle.file_state.specs.declared.state.FileState.{FileState}
use Rattle.file_io.proofs.ClaimLemmas.{as-fault, counts, file-stays, goes-on}
use Rattle.file_io.proofs.ReadingLemmas.{begins, not-le}
use Rattle.file_io.proofs.RequestingLemmas.{read-request, reading-asks, reading-ends, reading-fails, reading-goes}
use Rattle.file_io.specs.Opened.{IsPathOf, found_on}
use Rattle.file_io.proofs.reads.read_for_update.Goals as goal
use Rattle.io_state.specs.Sound.{ReadsNoTerminal}
use Rattle.io_state.proofs.RequesterLemmas.{called-regs}

pub returns-in-Err-clause-call : goal.returns-in-Err-clause-call
returns-in-Err-clause-call g c now m was v file terms tied stands is there =
    let p = c.args.by.p.0 in
    let opened = c.args.opened.now in
    let mid : FileState = record c.args.machine.now.files { disks = c.size.new.self } in
    let calls : DiskVolume → DiskFile → ℕ = λ v file. 1 in
    let fault : IsFault _ c.in-Err.fault = fault-of c.size.result c.in-Err.fault c.in-Err.is c.size.ensures.device in
    let drive = as-fault opened.place _ fault.number calls c.args.machine.now.files.disks c.size.new.self _ _ fault.is c.size.ensures.drive in
    let called = called-read c.args.machine.now.files mid _ _ was opened.place v file (Some fault.number) calls stands is there drive in
    reading-fails c.args.kind m was v file now p opened c.requires.may.update is _ _ terms mid called stands.drives c.refuse.result c.args.machine.now.processes
    (record mid { io = c.refuse.new.io }) fault.number
    (has-read c.args.machine.now.files mid _ _ was opened.place file (Some fault.number) calls stands (file-there was opened.place v file is there) refl refl refl drive)
    (c.refuse.ensures.end ∙ ap (λ (n : ℕ). CallEnd.Error n) (c.number.ensures ∙ fault.answer)) tied
    (ap (λ (io : Io). record mid { io = io }) c.refuse.ensures.io)
    (ap (λ (records : Records). with_waiting records p None) stands.records)

pub returns-then-size-at-clause-call : goal.returns-then-size-at-clause-call
returns-then-size-at-clause-call g c now m was v file terms tied stands is there =
    let p = c.args.by.p.0 in
    let opened = c.args.opened.now in
    let kind = c.args.kind in
    let mid : FileState = record c.args.machine.now.files { disks = c.size.new.self } in
    let calls : DiskVolume → DiskFile → ℕ = λ v file. 1 in
    let called = called-read c.args.machine.now.files mid _ _ was opened.place v file None calls stands is there c.in-Ok.ensures.drive in
    let read = has-read c.args.machine.now.files mid _ _ was opened.place file None calls stands (file-there was opened.place v file is there) refl refl refl c.in-Ok.ensures.drive in
    let locks = c.args.machine.now.files.records.locks in
    let locks_are : was.records.locks ≡ locks = ap (λ (records : Records). records.locks) stands.records in
    let found = found_on opened v file in
    let asker = asker_of m p now in
    let start = begins kind asker was found true in
    let starts : start ≡ c.position-at.result = ap (λ (l : Locks). start_of (request_of l p) opened.desc.at) locks_are ∙ sym c.position-at.ensures in
    let size_is : c.in-Ok.size ≡ length file.contents = c.in-Ok.ensures.ok was.volumes v file stands.mounted is there in
    let past : nat_le (length file.contents) start ≡ true = le-leb (length file.contents) start (omega (arith, size_is, starts, c.if-size-at.true)) in
    reading-ends kind m was v file now p opened c.requires.may.update is _ _ terms mid called stands.drives c.refuse-then-size-at.result c.args.machine.now.processes
    (record mid { io = c.refuse-then-size-at.new.io }) past read c.refuse-then-size-at.ensures.end tied
    (ap (λ (io : Io). record mid { io = io }) c.refuse-then-size-at.ensures.io)
    (ap (λ (records : Records). with_waiting records p None) stands.records)

pub returns-in-Some-clause-call : goal.returns-in-Some-clause-call
returns-in-Some-clause-call g c now m was v file terms tied stands is there =
    let p = c.args.by.p.0 in
    let opened = c.args.opened.now in
    let kind = c.args.kind in
    let mid : FileState = record c.args.machine.now.files { disks = c.size.new.self } in
    let calls : DiskVolume → DiskFile → ℕ = λ v file. 1 in
    let called = called-read c.args.machine.now.files mid _ _ was opened.place v file None calls stands is there c.in-Ok.ensures.drive in
    let read = has-read c.args.machine.now.files mid _ _ was opened.place file None calls stands (file-there was opened.place v file is there) refl refl refl c.in-Ok.ensures.drive in
    let locks = c.args.machine.now.files.records.locks in
    let locks_are : was.records.locks ≡ locks = ap (λ (records : Records). records.locks) stands.records in
    let found = found_on opened v file in
    let asker = asker_of m p now in
    let start = begins kind asker was found true in
    let starts : start ≡ c.position-at.result = ap (λ (l : Locks). start_of (request_of l p) opened.desc.at) locks_are ∙ sym c.position-at.ensures in
    let size_is : c.in-Ok.size ≡ length file.contents = c.in-Ok.ensures.ok was.volumes v file stands.mounted is there in
    let within : nat_le (length file.contents) start ≡ false = not-le (length file.contents) start (omega (arith, size_is, starts, c.if-size-at.false)) in
    let tick = c.args.machine.now.processes.tick in
    let tick_is : m.tick ≡ tick = ap (λ (i : Processes). i.tick) tied.is in
    let request = c.request_now-request.result in
    let grant = answer_in locks p tick request in
    let y_is : (regs_at m p).y ≡ c.args.by.regs.y = ap (λ (r : Regs). r.y) (sym (called-regs c.args.by c.args.machine.now.processes m c.requires.calls.calls tied)) in
    let same : request_now asker was found (read_claim kind asker found start) ≡ request =
    read-request kind m was now c.args.by.p opened v file c.code_of.result c.in-Ok.size c.position-at.result start c.args.by.regs.y c.from.result
    c.range_of.result locks tick request c.code_of.ensures y_is locks_are tick_is
    size_is starts c.from.ensures c.range_of.ensures c.request_now-request.ensures.request in
    reading-asks kind m was v file now p opened c.requires.may.update is _ _ terms mid called stands.drives c.in-Some.end c.args.machine.now.processes c.ask.new.self within
    (ap (λ (r : Request). r.lock.owner.0) same ∙ c.request_now-request.ensures.own.owner) read grant
    (ap (answer_to asker was) same
    ∙ same-answer m was now c.args.by.p found opened locks tick refl refl locks_are tick_is request)
    c.in-Some.ensures.end tied (c.in-Some.ensures.state ∙ ap (λ (r : Request). asked mid p r grant) (sym same))

pub read_granted-requires-clause-calls : goal.read_granted-requires-clause-calls
read_granted-requires-clause-calls g c =
    let p = c.args.by.p.0 in
    let mid : FileState = record c.args.machine.now.files { disks = c.size.new.self } in
    let request = c.request_now-request.result in
    let grant = answer_in c.args.machine.now.files.records.locks p c.args.machine.now.processes.tick request in
    let granted : grant ≡ Granted = goes-on grant (λ end is. c.in_default.not-Some end (c.ask.ensures.end ∙ is)) in
    let went : c.ask.new.self ≡ asked mid p request Granted = c.ask.ensures.state ∙ ap (asked mid p request) granted in
    record {
      calls = record { lives = search rules; regs = search rules };
      no_read = subst (λ (state : FileState). ReadsNoTerminal state.io p) (sym went) c.requires.calls.no_read;
    }

pub read_granted-requires-clause-opened : goal.read_granted-requires-clause-opened
read_granted-requires-clause-opened g c =
    let p = c.args.by.p.0 in
    let mid : FileState = record c.args.machine.now.files { disks = c.size.new.self } in
    let request = c.request_now-request.result in
    let grant = answer_in c.args.machine.now.files.records.locks p c.args.machine.now.processes.tick request in
    let granted : grant ≡ Granted = goes-on grant (λ end is. c.in_default.not-Some end (c.ask.ensures.end ∙ is)) in
    let went : c.ask.new.self ≡ asked mid p request Granted = c.ask.ensures.state ∙ ap (asked mid p request) granted in
    let opened = c.args.opened.now in
    record {
      path = subst (λ (state : FileState). IsPathOf state.io opened) (sym went) c.requires.opened.path;
      file =
          file-stays opened.place None (λ (v : DiskVolume) (file : DiskFile). 1) c.args.machine.now.files.disks c.size.new.self c.ask.new.self.disks _ _
          (ap (λ (state : FileState). state.disks) went) c.requires.opened.file c.in-Ok.ensures.drive;
    }

pub read_granted-requires-clause-room : goal.read_granted-requires-clause-room
read_granted-requires-clause-room g c =
    let p = c.args.by.p.0 in
    let request = c.request_now-request.result in
    let kept = request_of c.args.machine.now.files.records.locks p in
    let many : request.count ≡ c.args.by.regs.y =
    ap (λ (r : Request). r.count) c.request_now-request.ensures.request ∙ counts kept _ c.args.by.regs.y c.requires.may.read.count refl in
    record {
      named = c.requires.buffer.named;
      covers =
          subst (Covers request.lock.range) many c.request_now-request.ensures.own.covers;
    }

pub returns-clause-call : goal.returns-clause-call
returns-clause-call g c now m was v file terms tied stands is there =
    let p = c.args.by.p.0 in
    let opened = c.args.opened.now in
    let kind = c.args.kind in
    let mid : FileState = record c.args.machine.now.files { disks = c.size.new.self } in
    let calls : DiskVolume → DiskFile → ℕ = λ v file. 1 in
    let called = called-read c.args.machine.now.files mid _ _ was opened.place v file None calls stands is there c.in-Ok.ensures.drive in
    let read = has-read c.args.machine.now.files mid _ _ was opened.place file None calls stands (file-there was opened.place v file is there) refl refl refl c.in-Ok.ensures.drive in
    let locks = c.args.machine.now.files.records.locks in
    let locks_are : was.records.locks ≡ locks = ap (λ (records : Records). records.locks) stands.records in
    let found = found_on opened v file in
    let asker = asker_of m p now in
    let start = begins kind asker was found true in
    let starts : start ≡ c.position-at.result = ap (λ (l : Locks). start_of (request_of l p) opened.desc.at) locks_are ∙ sym c.position-at.ensures in
    let size_is : c.in-Ok.size ≡ length file.contents = c.in-Ok.ensures.ok was.volumes v file stands.mounted is there in
    let within : nat_le (length file.contents) start ≡ false = not-le (length file.contents) start (omega (arith, size_is, starts, c.if-size-at.false)) in
    let tick = c.args.machine.now.processes.tick in
    let tick_is : m.tick ≡ tick = ap (λ (i : Processes). i.tick) tied.is in
    let request = c.request_now-request.result in
    let grant = answer_in locks p tick request in
    let y_is : (regs_at m p).y ≡ c.args.by.regs.y = ap (λ (r : Regs). r.y) (sym (called-regs c.args.by c.args.machine.now.processes m c.requires.calls.calls tied)) in
    let same : request_now asker was found (read_claim kind asker found start) ≡ request =
    read-request kind m was now c.args.by.p opened v file c.code_of.result c.in-Ok.size c.position-at.result start c.args.by.regs.y c.from.result
    c.range_of.result locks tick request c.code_of.ensures y_is locks_are tick_is
    size_is starts c.from.ensures c.range_of.ensures c.request_now-request.ensures.request in
    let granted : grant ≡ Granted = goes-on grant (λ end is. c.in_default.not-Some end (c.ask.ensures.end ∙ is)) in
    let went : c.ask.new.self ≡ asked mid p request Granted = c.ask.ensures.state ∙ ap (asked mid p request) granted in
    reading-goes kind m was v file now p opened c.requires.may.update is _ _ terms mid called stands.drives c.read_granted.result c.read_granted.new.machine.processes
    c.read_granted.new.machine.files _ request same within
    (ap (answer_to asker was) same
    ∙ same-answer m was now c.args.by.p found opened locks tick refl refl locks_are tick_is request ∙ granted)
    read
    (c.read_granted.ensures.call now m was v file terms tied (granted-stands p was request opened.place.drive mid c.ask.new.self _ _ read went) is there)
