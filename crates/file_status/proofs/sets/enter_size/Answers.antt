use Rattle.std.proofs.Common.{◌≡◌, ◌≢◌, ◌∙◌, None, ap, refl, sym}
use Rattle.io_model.specs.Io.{with_call}
use Rattle.lock_model.specs.Records.{Records}
use Rattle.file_rules.specs.Seek.{long_of}
use Rattle.file_state.specs.declared.state.FileState.{FileState}
use Rattle.file_status.proofs.SizingLemmas.{if-err, if-ok, other-done, other-lacks, same-done}
use Rattle.file_status.proofs.StandLemmas.{uncalled-by}
use Rattle.file_status.proofs.sets.enter_size.Goals as goal

pub returns-then-size_before-long_of-clause-call : goal.returns-then-size_before-long_of-clause-call
returns-then-size_before-long_of-clause-call c m tied =
    let p = c.args.by.p.0 in
    let regs = c.args.by.regs in
    same-done c.args.sizing.size_before c.args.sizing.lock regs c.args.opened.now m p c.args.machine.now.files c.end_lock.new.machine.files c.end_lock.result c.end_lock.new.machine.processes
    (c.if-size_before-long_of.true ∙ c.long_of.ensures) c.end_lock.ensures.end
    (c.end_lock.ensures.tied m tied)
    c.end_lock.ensures.files

pub returns-then-is_err-clause-call : goal.returns-then-is_err-clause-call
returns-then-is_err-clause-call c m tied =
    let p = c.args.by.p.0 in
    let regs = c.args.by.regs in
    let other : c.args.sizing.size_before ≢ long_of regs = λ e. c.if-size_before-long_of.false (e ∙ sym c.long_of.ensures) in
    let lacks : c.write.new.self ≡ c.args.machine.now.files.records = if-err c.write.result c.write.ensures.err (sym c.is_err.ensures.value ∙ c.if-is_err.true) in
    other-lacks c.args.sizing.size_before c.args.sizing.lock regs c.args.opened.now m p c.args.machine.now.files _ _ c.args.machine.now.processes other refl
    (ap (λ (records : Records). let left : FileState = record c.args.machine.now.files { records = records } in left) lacks)

pub returns-clause-call : goal.returns-clause-call
returns-clause-call c m tied =
    let p = c.args.by.p.0 in
    let regs = c.args.by.regs in
    let other : c.args.sizing.size_before ≢ long_of regs = λ e. c.if-size_before-long_of.false (e ∙ sym c.long_of.ensures) in
    let entered = if-ok c.write.result c.write.ensures.ok (sym c.is_err.ensures.value ∙ c.if-is_err.false) in
    other-done c.args.sizing.size_before c.args.sizing.lock regs c.args.opened.now m p c.args.machine.now.files _ c.answer.result c.answer.new.s
    other c.answer.ensures.end
    (c.answer.ensures.tied m tied)
    (uncalled-by (record c.args.machine.now.files { records = c.write.new.self }) p c.answer.ensures.io
    ∙ ap (λ (records : Records). let left : FileState = record c.args.machine.now.files
    { io = with_call c.args.machine.now.files.io p None; records = records } in left) entered)
