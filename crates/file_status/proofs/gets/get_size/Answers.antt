use Rattle.std.proofs.Common.{subst, ◌∙◌, ap}
use Rattle.os9_base.specs.declared.call.CallEnd.{CallEnd}
use Rattle.os9_base.specs.declared.registers.Regs.{Regs}
use Rattle.proc_model.specs.Processes.{with_regs_of}
use Rattle.proc_state.specs.Tie.{RepresentsProcesses}
use Rattle.io_state.proofs.RequesterLemmas.{called-regs}
use Rattle.file_status.proofs.GetLemmas.{size-failed, size-told}
use Rattle.file_status.proofs.StandLemmas.{uncalled-by, with_disks}
use Rattle.file_status.proofs.gets.get_size.Goals as goal

pub returns-in-Ok-clause-call : goal.returns-in-Ok-clause-call
returns-in-Ok-clause-call g c now m was it terms tied stands open_is =
    size-told m was now c.args.by.p.0 c.answer.result c.answer.new.s c.args.machine.now.files _ _ _ terms c.fd.new.self
    c.args.opened.now it stands open_is (uncalled-by (with_disks c.args.machine.now.files c.fd.new.self) c.args.by.p.0 c.answer.ensures.io)
    c.args.by.regs c.in-Ok.fd (called-regs c.args.by c.args.machine.now.processes m c.requires.calls.calls tied) c.in-Ok.ensures.ok c.in-Ok.ensures.drive c.answer.ensures.end
    (subst (λ (r : Regs). RepresentsProcesses c.answer.new.s (with_regs_of m c.args.by.p.0 r)) c.long_regs-regs.ensures (c.answer.ensures.tied m tied))

pub returns-in-Err-clause-call : goal.returns-in-Err-clause-call
returns-in-Err-clause-call g c now m was it terms tied stands open_is =
    size-failed m was now c.args.by.p.0 c.refuse.result c.args.machine.now.processes c.args.machine.now.files _ _ _ terms c.fd.new.self c.args.opened.now it
    stands open_is (uncalled-by (with_disks c.args.machine.now.files c.fd.new.self) c.args.by.p.0 c.refuse.ensures.io)
    c.in-Err.fault c.in-Err.ensures.drive c.in-Err.ensures.device (c.refuse.ensures.end ∙ ap (λ n. CallEnd.Error n) c.number.ensures) tied
