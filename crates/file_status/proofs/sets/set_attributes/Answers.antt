use Rattle.std.proofs.Common.{◌∙◌, ap}
use Rattle.os9_base.specs.declared.call.CallEnd.{CallEnd}
use Rattle.io_state.proofs.RequesterLemmas.{called-regs}
use Rattle.file_status.proofs.AttemptLemmas.{user-tied}
use Rattle.file_status.proofs.SetLemmas.{attributes-failed, attributes-set}
use Rattle.file_status.proofs.StandLemmas.{uncalled-by, with_disks}
use Rattle.file_status.proofs.sets.set_attributes.Goals as goal

pub returns-in-Ok-clause-call : goal.returns-in-Ok-clause-call
returns-in-Ok-clause-call g c m was it terms tied stands open_is =
    attributes-set m was c.args.by.time c.args.by.p.0 c.answer.result c.answer.new.s c.args.machine.now.files _ _ _
    terms c.set_attr.new.self c.args.opened.now it stands open_is (uncalled-by (with_disks c.args.machine.now.files c.set_attr.new.self) c.args.by.p.0 c.answer.ensures.io)
    c.args.by.regs c.user-user.result (called-regs c.args.by c.args.machine.now.processes m c.requires.calls.calls tied) (user-tied c.args.machine.now.processes m c.args.by.p.0
    c.user-user.result tied c.user-user.ensures.user) c.in-Ok.ensures.changed c.answer.ensures.end
    (c.answer.ensures.tied m tied)

pub returns-in-Err-clause-call : goal.returns-in-Err-clause-call
returns-in-Err-clause-call g c m was it terms tied stands open_is =
    attributes-failed m was c.args.by.time c.args.by.p.0 c.refuse.result c.args.machine.now.processes c.args.machine.now.files _ _ _
    terms c.set_attr.new.self c.args.opened.now it stands open_is (uncalled-by (with_disks c.args.machine.now.files c.set_attr.new.self) c.args.by.p.0 c.refuse.ensures.io)
    c.args.by.regs c.user-user.result c.in-Err.error (called-regs c.args.by c.args.machine.now.processes m c.requires.calls.calls tied)
    (user-tied c.args.machine.now.processes m c.args.by.p.0 c.user-user.result tied c.user-user.ensures.user)
    c.in-Err.ensures.changed (c.refuse.ensures.end ∙ ap (λ n. CallEnd.Error n) c.number.ensures) tied
