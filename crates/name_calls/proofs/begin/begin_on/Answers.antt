use Rattle.std.proofs.Common.{◌∙◌, ap}
use Rattle.io_model.specs.Io.{Io, pending_at, with_paths, new_desc}
use Rattle.io_state.proofs.RequesterLemmas.{called-regs, none-reads-none}
use Rattle.name_calls.proofs.BeginLemmas.{begun-quietly, full-quietly, paths-full}
use Rattle.name_calls.proofs.begin.begin_on.Goals as goal

pub refuse-requires-clause-no_read : goal.refuse-requires-clause-no_read
refuse-requires-clause-no_read c =
    none-reads-none c.begin_on_disk.new.self c.args.by.p.0
    (ap (λ (io : Io). pending_at io c.args.by.p.0) c.begin_on_disk.ensures.io ∙ c.requires.calls.none_pending)

pub answer-requires-clause-no_read : goal.answer-requires-clause-no_read
answer-requires-clause-no_read c =
    none-reads-none c.begin_on_disk.new.self c.args.by.p.0
    (ap (λ (io : Io). pending_at io c.args.by.p.0) c.begin_on_disk.ensures.io ∙ c.requires.calls.none_pending)

pub returns-in-Err-clause-begins : goal.returns-in-Err-clause-begins
returns-in-Err-clause-begins c m was now list views tied stands next =
    let none = c.in-Err.ensures.number in
    full-quietly m was now c.args.by.p.0 list c.args.target c.args.machine.now.files views stands c.refuse.result c.args.machine.now.processes c.begin_on_disk.new.self c.refuse.new.io
    c.refuse.ensures.io
    (c.begin_on_disk.ensures.io ∙ ap (with_paths c.args.machine.now.files.io) (paths-full c.args.machine.now.files.io.paths c.args.by.p.0 (new_desc c.args.target c.args.by.regs.a) none))
    none c.refuse.ensures.end tied

pub returns-in-Ok-clause-begins : goal.returns-in-Ok-clause-begins
returns-in-Ok-clause-begins c m was now list views tied stands next =
    begun-quietly m was now c.args.by.p.0 list c.args.target c.args.machine.now.files views stands c.answer.result c.answer.new.s c.begin_on_disk.new.self c.answer.new.io c.answer.ensures.io
    c.in-Ok.a c.args.next c.in-Ok.ensures.number next c.answer.ensures.end
    c.args.by.regs (called-regs c.args.by c.args.machine.now.processes m c.requires.calls.calls tied) c.begin_on_disk.ensures.io (c.answer.ensures.tied m tied)
