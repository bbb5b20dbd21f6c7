use Rattle.std.proofs.Common.{◌≡◌, ◌∙◌, ◌+◌, ◌≤◌, ℕ, None, List, length, take, ap, subst, arith, length-take}
use Rattle.io_model.specs.Io.{with_call}
use Rattle.file_io.proofs.EndingLemmas.{gives-of}
use Rattle.file_io.proofs.ReadingLemmas.{given-bytes}
use Rattle.file_io.specs.Ending.{with_bytes}
use Rattle.file_io.specs.Opened.{moved_to}
use Rattle.file_io.specs.Reading.{part_of}
use Rattle.file_io.proofs.reads.give.Goals as goal

pub returns-then-count-eq0-clause-call : goal.returns-then-count-eq0-clause-call
returns-then-count-eq0-clause-call c m tied = record {
  none = λ _. record { end_is = c.refuse.ensures.end; tied = tied; io_is = c.refuse.ensures.io };
  some = λ more. absurd (more (omega (arith, length-take c.args.count c.args.machine.now.processes.buffer.items, c.if-count-eq0.true)));
}

pub returns-clause-call : goal.returns-clause-call
returns-clause-call c m tied =
    let p = c.args.by.p.0 in
    let count = c.args.count in
    let kind = c.args.kind in
    let opened = c.args.opened.now in
    let io = c.args.machine.now.files.io in
    let buffer : List ℕ = c.args.machine.now.processes.buffer.items in
    let n = c.part_length-y.result in
    let room : count ≤ length buffer = omega arith in
    let within : n ≤ length (take count buffer) = subst (λ (b : List ℕ). n ≤ length (take count b)) c.deref.ensures.value c.part_length-y.ensures.within in
    let part : take n (take count buffer) ≡ part_of kind (take count buffer) = subst
    (λ (b : List ℕ). take n (take count b) ≡ part_of kind (take count b)) c.deref.ensures.value
    c.part_length-y.ensures.part in
    let given = given-bytes kind buffer count n within part in
    record {
      none = λ e. absurd (c.if-count-eq0.false (omega (arith, e, length-take count buffer, room)));
      some =
          λ _. gives-of (take n buffer) (part_of kind (take count buffer)) n opened.desc.at c.args.by.regs opened m p io c.answer_at.result c.answer_at.new.machine.processes
          c.answer_at.new.machine.files.io given.0 given.1 (record {
            end_is = c.answer_at.ensures.end;
            tied = c.answer_at.ensures.tied (with_bytes m p c.args.by.regs.x (take n buffer)) (c.store_front.ensures.tied m tied);
            io_is = c.answer_at.ensures.io ∙ ap (λ (k : ℕ). with_call (moved_to io opened (opened.desc.at + k)) p None) c.from.ensures;
          });
    }
