use Rattle.std.proofs.Common.{◌≡◌, ◌∙◌, true, false, is_some, take, subst, sym, ap}
use Rattle.os9_base.specs.declared.call.CallEnd.{CallEnd}
use Rattle.proc_model.specs.Processes.{cells_at, with_memory, with_regs_of}
use Rattle.proc_model.specs.UserBytes.{user_bytes}
use Rattle.proc_state.specs.Tie.{RepresentsProcesses}
use Rattle.proc_model.specs.MemoryChanges.{stored}
use Rattle.io_state.proofs.RequesterLemmas.{called-regs}
use Rattle.file_status.proofs.GetLemmas.{descriptor-failed, descriptor-stopped, descriptor-told}
use Rattle.file_status.proofs.StandLemmas.{uncalled-by, with_disks}
use Rattle.file_status.proofs.gets.get_descriptor.Goals as goal

pub returns-then-not-is_named-clause-call : goal.returns-then-not-is_named-clause-call
returns-then-not-is_named-clause-call g c now m was it terms tied stands open_is =
    descriptor-stopped m was now c.args.by.p.0 c.refuse.result c.args.machine.now.processes c.args.machine.now.files _ _ terms
    it c.args.by.regs (called-regs c.args.by c.args.machine.now.processes m c.requires.calls.calls tied) stands (uncalled-by c.args.machine.now.files c.args.by.p.0 c.refuse.ensures.io)
    (subst (λ n. false ≡ is_some (user_bytes (cells_at m c.args.by.p.0) c.args.by.regs.x n))
    c.asked_count-count.ensures (sym c.if-not-is_named.true ∙ c.is_named.ensures.there m tied))
    c.refuse.ensures.end tied

pub returns-in-Ok-clause-call : goal.returns-in-Ok-clause-call
returns-in-Ok-clause-call g c now m was it terms tied stands open_is =
    descriptor-told m was now c.args.by.p.0 c.answer.result c.answer.new.s c.args.machine.now.files _ _ _ terms c.fd.new.self
    c.args.opened.now it stands open_is (uncalled-by (with_disks c.args.machine.now.files c.fd.new.self) c.args.by.p.0 c.answer.ensures.io)
    c.args.by.regs c.in-Ok.fd c.descriptor_front.result (called-regs c.args.by c.args.machine.now.processes m c.requires.calls.calls tied) c.in-Ok.ensures.ok c.descriptor_front.ensures
    (subst (λ n. true ≡ is_some (user_bytes (cells_at m c.args.by.p.0) c.args.by.regs.x n))
    c.asked_count-count.ensures (sym c.if-not-is_named.false ∙ c.is_named.ensures.there m tied))
    c.in-Ok.ensures.drive c.answer.ensures.end
    (subst (λ n. RepresentsProcesses c.answer.new.s
    (with_regs_of (with_memory m (stored m.memory c.args.by.p.0 c.args.by.regs.x
    (take n c.descriptor_front.result))) c.args.by.p.0 c.args.by.regs)) c.asked_count-count.ensures
    (c.answer.ensures.tied (with_memory m (stored m.memory c.args.by.p.0 c.args.by.regs.x (take c.asked_count-count.result c.descriptor_front.result))) (c.store.ensures.tied m tied)))

pub returns-in-Err-clause-call : goal.returns-in-Err-clause-call
returns-in-Err-clause-call g c now m was it terms tied stands open_is =
    descriptor-failed m was now c.args.by.p.0 c.refuse-in-Err.result c.args.machine.now.processes c.args.machine.now.files
    _ _ _ terms c.fd.new.self c.args.opened.now it stands open_is
    (uncalled-by (with_disks c.args.machine.now.files c.fd.new.self) c.args.by.p.0 c.refuse-in-Err.ensures.io)
    c.args.by.regs c.in-Err.fault (called-regs c.args.by c.args.machine.now.processes m c.requires.calls.calls tied)
    (subst (λ n. true ≡ is_some (user_bytes (cells_at m c.args.by.p.0) c.args.by.regs.x n))
    c.asked_count-count.ensures (sym c.if-not-is_named.false ∙ c.is_named.ensures.there m tied))
    c.in-Err.ensures.drive c.in-Err.ensures.device (c.refuse-in-Err.ensures.end ∙ ap (λ n. CallEnd.Error n)
    c.number.ensures) tied
