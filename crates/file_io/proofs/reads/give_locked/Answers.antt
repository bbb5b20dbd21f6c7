use Rattle.std.proofs.Common.{◌≡◌, ◌∙◌, ◌+◌, ◌≤◌, ℕ, false, is_err, None, List, length, take, ap, sym, subst, arith, length-take}
use Rattle.os9_base.specs.declared.call.CallEnd.TheVariants.{Done, NoMemory}
use Rattle.io_model.specs.Io.{with_call}
use Rattle.lock_model.specs.Laws.{MayHold}
use Rattle.lock_model.specs.Records.{Records, holding}
use Rattle.lock_model.specs.declared.lock.Held.{Held}
use Rattle.file_rules.specs.Read.{lock_by}
use Rattle.file_state.specs.declared.state.FileState.{FileState}
use Rattle.file_io.proofs.ClaimLemmas.{read-held}
use Rattle.file_io.proofs.EndingLemmas.{gives-of, on-ok}
use Rattle.file_io.proofs.ReadingLemmas.{given-bytes}
use Rattle.file_io.specs.Ending.{with_bytes}
use Rattle.file_io.specs.Opened.{moved_to}
use Rattle.file_io.specs.Reading.{part_of}
use Rattle.file_io.proofs.reads.give_locked.Goals as goal

pub hold-requires-clause-may : goal.hold-requires-clause-may
hold-requires-clause-may c =
    let kind = c.args.reading.kind in
    let lock = c.args.reading.lock in
    let n = c.part_length-y.result in
    let bytes : List ℕ = take n c.deref-2.result.now in
    let few : length bytes ≤ c.args.by.regs.y =
    omega (arith, length-take n c.deref-2.result.now, length-take c.args.count c.deref.result.now) in
    subst (MayHold c.args.machine.now.files.records.locks) (sym c.lock_of_read-held.ensures)
    (read-held c.args.machine.now.files.records.locks lock bytes c.requires.granted (λ last is. let far = c.requires.room.covers last is in omega (arith, far, few)) kind)

pub returns-clause-call : goal.returns-clause-call
returns-clause-call c m tied =
    let p = c.args.by.p.0 in
    let kind = c.args.reading.kind in
    let count = c.args.count in
    let lock = c.args.reading.lock in
    let opened = c.args.opened.now in
    let files = c.args.machine.now.files in
    let regs = c.args.by.regs in
    let buffer : List ℕ = c.args.machine.now.processes.buffer.items in
    let n = c.part_length-y.result in
    let given : List ℕ = part_of kind (take count buffer) in
    let within : n ≤ length (take count buffer) = subst (λ (b : List ℕ). n ≤ length (take count b)) c.deref.ensures.value c.part_length-y.ensures.within in
    let part : take n (take count buffer) ≡ given = subst (λ (b : List ℕ). take n (take count b) ≡ part_of kind (take count b)) c.deref.ensures.value c.part_length-y.ensures.part in
    let are = given-bytes kind buffer count n within part in
    let bytes : take n c.deref-2.result.now ≡ given = ap (λ (b : List ℕ). take n b) c.deref-2.ensures.value ∙ are.0 in
    let held : c.lock_of_read-held.result ≡ lock_by kind lock given = c.lock_of_read-held.ensures ∙ ap (λ (b : List ℕ). lock_by kind lock b) bytes in
    let fine : is_err c.hold.result ≡ false = sym c.is_err.ensures.value ∙ c.if-is_err.false in
    let records : c.hold.new.self ≡ holding files.records opened.path.0 (lock_by kind lock given) given =
    on-ok c.hold.result fine c.hold.ensures.ok
    ∙ ap (λ (l : Held). holding files.records opened.path.0 l (take n c.deref-2.result.now)) held
    ∙ ap (λ (b : List ℕ). holding files.records opened.path.0 (lock_by kind lock given) b) bytes in
    record {
      done = λ some.
          gives-of (take n buffer) given n lock.range.start regs opened m p files.io c.answer_at.result
          c.answer_at.new.machine.processes c.answer_at.new.machine.files.io are.0 are.1 (record {
            end_is = c.answer_at.ensures.end;
            tied = c.answer_at.ensures.tied (with_bytes m p regs.x (take n buffer)) (c.store_front.ensures.tied m tied);
            io_is = c.answer_at.ensures.io ∙ ap (λ (k : ℕ). with_call (moved_to files.io opened (lock.range.start + k)) p None) c.from.ensures;
          });
      entered = λ some.
          c.answer_at.ensures.rest
          ∙ ap (λ (records : Records). let it : FileState = record files { io = c.answer_at.new.machine.files.io; records = records } in it) records;
      lacks = λ none. let e : Done ≡ NoMemory = sym c.answer_at.ensures.end ∙ none in cc;
    }
