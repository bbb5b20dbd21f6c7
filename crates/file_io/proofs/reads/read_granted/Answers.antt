use Rattle.std.proofs.Common.{◌≡◌, ◌∙◌, ℕ, List, None, Some, take, ap, sym, refl, subst, arith}
use Rattle.os9_base.specs.declared.call.CallEnd.{CallEnd}
use Rattle.os9_base.specs.declared.registers.Regs.{Regs}
use Rattle.proc_model.specs.Processes.{regs_at}
use Rattle.rbf_access.specs.Reading.{read_calls}
use Rattle.rbf_change.specs.Contents.{bytes_from}
use Rattle.rbf_model.specs.File.{DiskFile}
use Rattle.rbf_model.specs.Volume.{DiskVolume}
use Rattle.io_state.proofs.RequesterLemmas.{called-regs}
use Rattle.file_state.proofs.CountLemmas.{called-more, called-read}
use Rattle.file_state.proofs.ReachedLemmas.{file-there, has-read}
use Rattle.file_state.proofs.RequestLemmas.{IsFault, fault-of, stands-restored}
use Rattle.file_state.specs.declared.state.FileState.{FileState}
use Rattle.file_io.proofs.ClaimLemmas.{as-fault}
use Rattle.file_io.proofs.ReadingLemmas.{granted-broken, granted-gives, room-stays}
use Rattle.file_io.specs.Ending.{GivesLocked}
use Rattle.file_io.specs.Reading.{part_of}
use Rattle.file_io.proofs.reads.read_granted.Goals as goal

pub returns-in-Ok-clause-call : goal.returns-in-Ok-clause-call
returns-in-Ok-clause-call g c now m was v file terms tied stands is there =
    let p = c.args.by.p.0 in
    let opened = c.args.opened.now in
    let lock = c.args.reading.lock in
    let kind = c.args.reading.kind in
    let at = lock.range.start in
    let s = c.load.new.s in
    let same : c.args.by.regs ≡ regs_at m p = called-regs c.args.by c.args.machine.now.processes m c.requires.calls.calls tied in
    let old : FileState = record c.args.machine.now.files { records = was.records } in
    let mid : FileState = record c.args.machine.now.files { disks = c.load.new.disks } in
    let read_state : FileState = record mid { records = was.records } in
    let calls = λ (v : DiskVolume) (file : DiskFile). read_calls file at c.args.by.regs.y in
    let whole = stands-restored p c.args.machine.now.files _ was stands in
    let called = called-read old read_state _ _ was opened.place v file None calls whole is there c.in-Ok.ensures.drive in
    let loaded = c.in-Ok.ensures.ok was.volumes v file stands.mounted is there in
    let bytes : part_of kind (take c.in-Ok.count s.buffer.items) ≡ part_of kind (bytes_from file.contents at (regs_at m p).y) =
    ap (part_of kind) loaded.bytes_are ∙ ap (λ (r : Regs). part_of kind (bytes_from file.contents at r.y)) same in
    granted-gives kind lock m was v file now p opened c.give_locked.result c.give_locked.new.machine.processes mid c.give_locked.new.machine.files _ _ terms (read_calls file at (regs_at m p).y)
    (called-more (read_calls file at c.args.by.regs.y) (read_calls file at (regs_at m p).y) _ _ (omega (arith, ap (λ (r : Regs). read_calls file at r.y) same)) called) is (sym stands.records)
    (has-read old read_state _ _ was opened.place file None calls whole (file-there was opened.place v file is there) refl refl refl c.in-Ok.ensures.drive)
    (subst (λ (bytes : List ℕ). GivesLocked kind lock bytes (regs_at m p) opened m p mid c.give_locked.result c.give_locked.new.machine.processes c.give_locked.new.machine.files) bytes
    (subst (λ (r : Regs). GivesLocked kind lock (part_of kind (take c.in-Ok.count s.buffer.items)) r opened m p mid
    c.give_locked.result c.give_locked.new.machine.processes c.give_locked.new.machine.files)
    same (c.give_locked.ensures.call m
    (c.in-Ok.ensures.same.represents m tied))))

pub returns-in-Err-clause-call : goal.returns-in-Err-clause-call
returns-in-Err-clause-call g c now m was v file terms tied stands is there =
    let p = c.args.by.p.0 in
    let opened = c.args.opened.now in
    let lock = c.args.reading.lock in
    let at = lock.range.start in
    let same : c.args.by.regs ≡ regs_at m p = called-regs c.args.by c.args.machine.now.processes m c.requires.calls.calls tied in
    let old : FileState = record c.args.machine.now.files { records = was.records } in
    let mid : FileState = record c.args.machine.now.files { disks = c.load.new.disks } in
    let read_state : FileState = record mid { records = was.records } in
    let calls = λ (v : DiskVolume) (file : DiskFile). read_calls file at c.args.by.regs.y in
    let whole = stands-restored p c.args.machine.now.files _ was stands in
    let fault : IsFault _ c.in-Err.fault = fault-of c.load.result c.in-Err.fault c.in-Err.is c.load.ensures.device in
    let drive = as-fault opened.place _ fault.number calls c.args.machine.now.files.disks c.load.new.disks _ _ fault.is c.load.ensures.drive in
    let called = called-read old read_state _ _ was opened.place v file (Some fault.number) calls whole is there drive in
    granted-broken c.args.reading.kind lock m was v file now p opened c.refuse.result c.load.new.s mid (record mid { io = c.refuse.new.io }) _ _ terms (read_calls file at (regs_at m p).y)
    (called-more (read_calls file at c.args.by.regs.y) (read_calls file at (regs_at m p).y) _ _ (omega (arith, ap (λ (r : Regs). read_calls file at r.y) same)) called) is (sym stands.records)
    fault.number c.refuse.new.io refl
    (has-read old read_state _ _ was opened.place file (Some fault.number) calls whole (file-there was opened.place v file is there) refl refl refl drive)
    (record { end_is = c.refuse.ensures.end ∙ ap (λ (n : ℕ). CallEnd.Error n) (c.number.ensures ∙ fault.answer); tied = c.in-Err.ensures.same.represents m tied; io_is = c.refuse.ensures.io })

pub give_locked-requires-clause-path : goal.give_locked-requires-clause-path
give_locked-requires-clause-path g c = c.requires.opened.path

pub give_locked-requires-clause-room : goal.give_locked-requires-clause-room
give_locked-requires-clause-room g c =
    room-stays _ _ _ _ c.args.reading.lock (c.in-Ok.ensures.same.memory.cells c.args.by.p.0) refl c.requires.room
