use Rattle.std.proofs.Common.{◌∙◌, ap, subst}
use Rattle.os9_base.specs.declared.call.CallEnd.{CallEnd}
use Rattle.os9_base.specs.declared.registers.Regs.{Regs}
use Rattle.proc_model.specs.Processes.{user_at}
use Rattle.io_state.proofs.RequesterLemmas.{called-regs}
use Rattle.file_rules.specs.Seek.{long_of}
use Rattle.file_state.specs.declared.state.FileState.{FileState}
use Rattle.file_status.proofs.GrantedLemmas.{size-given, size-not-given}
use Rattle.file_status.specs.Status.{EndsSized}
use Rattle.file_status.proofs.StandLemmas.{uncalled-by, with_disks}
use Rattle.file_status.proofs.sets.size_granted.Goals as goal

pub returns-in-Ok-clause-call : goal.returns-in-Ok-clause-call
returns-in-Ok-clause-call g c m was it terms tied stands open_is =
    let p = c.args.by.p.0 in
    let mid : FileState = record c.args.machine.now.files { disks = c.set_size.new.self } in
    size-given c.args.sizing.size_before c.args.sizing.lock m was c.args.by.time p c.enter_size.result c.enter_size.new.machine.processes c.args.machine.now.files
    c.enter_size.new.machine.files _ _ terms c.set_size.new.self c.args.opened.now it stands open_is c.long_of-size.result
    (c.long_of-size.ensures ∙ ap long_of (called-regs c.args.by c.args.machine.now.processes m c.requires.calls.calls tied)) (c.in-Ok.ensures.changed (user_at m p))
    (subst (λ (r : Regs). EndsSized c.args.sizing.size_before c.args.sizing.lock r c.args.opened.now m p mid c.enter_size.result
    c.enter_size.new.machine.processes c.enter_size.new.machine.files) (called-regs c.args.by c.args.machine.now.processes m c.requires.calls.calls tied) (c.enter_size.ensures.call m tied))

pub returns-in-Err-clause-call : goal.returns-in-Err-clause-call
returns-in-Err-clause-call g c m was it terms tied stands open_is =
    let p = c.args.by.p.0 in
    size-not-given c.args.sizing.size_before c.args.sizing.lock m was c.args.by.time p c.refuse.result c.args.machine.now.processes c.args.machine.now.files
    _ _ _ terms c.set_size.new.self c.args.opened.now it stands open_is c.long_of-size.result
    (c.long_of-size.ensures ∙ ap long_of (called-regs c.args.by c.args.machine.now.processes m c.requires.calls.calls tied)) c.in-Err.fault
    (c.in-Err.ensures.changed (user_at m p)) (c.refuse.ensures.end ∙ ap (λ n. CallEnd.Error n) c.number.ensures) tied
    (uncalled-by (with_disks c.args.machine.now.files c.set_size.new.self) p c.refuse.ensures.io)
