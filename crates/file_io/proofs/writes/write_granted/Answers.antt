use Rattle.std.proofs.Common.{◌≡◌, ◌∙◌, ◌+◌, ◌<◌, ◌^◌, ℕ, List, Ok, Err, length, take, ap, refl, subst, arith}
use Rattle.std.proofs.lemmas.List.{length-take-le}
use Rattle.os9_base.specs.declared.call.CallEnd.{CallEnd}
use Rattle.proc_model.specs.Processes.{user_at}
use Rattle.file_state.specs.declared.state.FileState.{FileState}
use Rattle.file_io.proofs.WritingLemmas.{write-behind, write-fits}
use Rattle.file_io.proofs.writes.write_granted.Goals as goal

pub enter_write-requires-clause-free : goal.enter_write-requires-clause-free
enter_write-requires-clause-free g c = c.requires.granted.free

pub enter_write-requires-clause-fits : goal.enter_write-requires-clause-fits
enter_write-requires-clause-fits g c =
    let has = c.requires.file.has in
    let place = c.args.opened.now.place in
    let at = c.args.writing.lock.range.start in
    let count = c.args.writing.sent.count in
    let all : List ℕ = c.deref.result.now in
    let room : length all ≡ length c.args.machine.now.processes.buffer.items = ap (λ (it : List ℕ). length it) c.deref.ensures.value in
    let long : length (take count all) ≡ count = length-take-le count all (omega (arith, room)) in
    let it = c.in-Ok.ensures.changed 0 has.volumes has.volume has.file has.mounted has.is has.there in
    subst (λ (n : ℕ). at + n < 2 ^ 32) long
    (write-fits place.number at (take count all) 0 c.args.by.time (Ok tt) _ has.volume has.file place.drive has.volumes _ c.write_at.new.self _ has.is it (omega arith) refl)

pub returns-in-Ok-clause-call : goal.returns-in-Ok-clause-call
returns-in-Ok-clause-call g c m was v file terms tied stands is there =
    let p = c.args.by.p.0 in
    let count = c.args.writing.sent.count in
    let old = c.args.machine.now in
    let left = c.enter_write.new.machine in
    write-behind c.args.writing.lock m was v file c.args.by.time p c.args.opened.now (take count c.deref.result.now) (take count old.processes.buffer.items) c.args.writing.sent.done
    c.enter_write.result left.processes old.files c.write_at.new.self left.files _ _ terms count (Ok tt) (ap (λ (it : List ℕ). take count it) c.deref.ensures.value)
    (length-take-le count old.processes.buffer.items (omega arith)) stands is there (c.in-Ok.ensures.changed (user_at m p)) (c.enter_write.ensures.call m tied)

pub returns-in-Err-clause-call : goal.returns-in-Err-clause-call
returns-in-Err-clause-call g c m was v file terms tied stands is there =
    let p = c.args.by.p.0 in
    let count = c.args.writing.sent.count in
    let old = c.args.machine.now in
    let new : FileState = record old.files { disks = c.write_at.new.self; io = c.refuse.new.io } in
    write-behind c.args.writing.lock m was v file c.args.by.time p c.args.opened.now (take count c.deref.result.now) (take count old.processes.buffer.items) c.args.writing.sent.done
    c.refuse.result old.processes old.files c.write_at.new.self new _ _ terms count (Err c.in-Err.fault) (ap (λ (it : List ℕ). take count it) c.deref.ensures.value)
    (length-take-le count old.processes.buffer.items (omega arith)) stands is there (c.in-Err.ensures.changed (user_at m p))
    (record { end_is = c.refuse.ensures.end ∙ ap (λ (n : ℕ). CallEnd.Error n) c.number.ensures; tied = tied; io_is = c.refuse.ensures.io }, refl)
