use Rattle.std.proofs.Common.{◌∙◌, ap, is_some, subst, sym}
use Rattle.proc_model.specs.Processes.{with_memory, with_regs_of}
use Rattle.io_model.specs.declared.path.Desc.{Desc}
use Rattle.proc_model.specs.MemoryChanges.{stored}
use Rattle.proc_state.specs.Tie.{RepresentsProcesses}
use Rattle.io_state.proofs.RequesterLemmas.{called-regs}
use Rattle.file_rules.specs.Files.{place_of_target}
use Rattle.file_status.proofs.GetLemmas.{options-stopped, options-told}
use Rattle.file_status.proofs.StandLemmas.{uncalled-by}
use Rattle.file_status.proofs.gets.get_options.Goals as goal

pub returns-then-not-is_named-clause-call : goal.returns-then-not-is_named-clause-call
returns-then-not-is_named-clause-call c now opened views m was it terms tied stands open_is =
    options-stopped m was now c.args.by.p.0 c.refuse.result c.args.machine.now.processes c.args.machine.now.files _ views terms
    it c.args.by.regs (called-regs c.args.by c.args.machine.now.processes m c.requires.calls.calls tied) stands (uncalled-by c.args.machine.now.files c.args.by.p.0 c.refuse.ensures.io)
    (sym c.if-not-is_named.true ∙ c.is_named.ensures.there m tied) c.refuse.ensures.end tied

pub returns-clause-call : goal.returns-clause-call
returns-clause-call c now opened views m was it terms tied stands open_is =
    options-told m was now c.args.by.p.0 c.answer.result c.answer.new.s c.args.machine.now.files _ views terms
    it c.args.by.regs (called-regs c.args.by c.args.machine.now.processes m c.requires.calls.calls tied) stands (uncalled-by c.args.machine.now.files c.args.by.p.0 c.answer.ensures.io)
    (sym c.if-not-is_named.false ∙ c.is_named.ensures.there m tied) c.answer.ensures.end
    (subst (λ bytes. RepresentsProcesses c.answer.new.s (with_regs_of (with_memory m (stored m.memory c.args.by.p.0 c.args.by.regs.x bytes)) c.args.by.p.0 c.args.by.regs))
    (c.file_options.ensures it.opened.desc.target (ap is_some (ap (λ (desc : Desc). place_of_target desc.target) open_is.desc_is ∙ open_is.target_is)))
    (c.answer.ensures.tied (with_memory m (stored m.memory c.args.by.p.0 c.args.by.regs.x c.file_options.result)) (c.store.ensures.tied m tied)))
