use Rattle.std.proofs.Common.{◌≡◌, ap, subst, arith}
use Rattle.os9_base.specs.declared.registers.Regs.{Regs}
use Rattle.proc_model.specs.Processes.{regs_at, with_regs_of}
use Rattle.proc_state.specs.Tie.{RepresentsProcesses}
use Rattle.io_state.proofs.RequesterLemmas.{called-regs}
use Rattle.file_status.proofs.CodeLemmas.{by-code, getting-unknown, position-told, ready-told}
use Rattle.file_status.proofs.StandLemmas.{uncalled-by}
use Rattle.file_status.proofs.gets.get_status_of.Goals as goal

pub returns-in-0-clause-call : goal.returns-in-0-clause-call
returns-in-0-clause-call g c now m was it terms tied stands open_is =
    let code = (regs_at m c.args.by.p.0).b in
    let same : c.args.by.regs.b ≡ code = ap (λ (r : Regs). r.b) (called-regs c.args.by c.args.machine.now.processes m c.requires.calls.calls tied) in
    let known : 0 ≡ code = omega arith in
    by-code m was now c.args.by.p.0 c.get_options.result c.get_options.new.machine.processes c.get_options.new.machine.files _ _ terms it 0 code
    known (c.get_options.ensures.call now c.args.opened.now _ m was it terms tied stands open_is)

pub returns-in-1-clause-call : goal.returns-in-1-clause-call
returns-in-1-clause-call g c now m was it terms tied stands open_is =
    let code = (regs_at m c.args.by.p.0).b in
    let same : c.args.by.regs.b ≡ code = ap (λ (r : Regs). r.b) (called-regs c.args.by c.args.machine.now.processes m c.requires.calls.calls tied) in
    let known : 1 ≡ code = omega arith in
    by-code m was now c.args.by.p.0 c.answer.result c.answer.new.s _ _ _ terms it 1 code known
    (ready-told m was now c.args.by.p.0 c.answer.result c.answer.new.s c.args.machine.now.files _ _ terms it
    c.args.by.regs (called-regs c.args.by c.args.machine.now.processes m c.requires.calls.calls tied) stands
    (uncalled-by c.args.machine.now.files c.args.by.p.0 c.answer.ensures.io) c.answer.ensures.end
    (c.answer.ensures.tied m tied))

pub returns-in-2-clause-call : goal.returns-in-2-clause-call
returns-in-2-clause-call g c now m was it terms tied stands open_is =
    let code = (regs_at m c.args.by.p.0).b in
    let same : c.args.by.regs.b ≡ code = ap (λ (r : Regs). r.b) (called-regs c.args.by c.args.machine.now.processes m c.requires.calls.calls tied) in
    let known : 2 ≡ code = omega arith in
    by-code m was now c.args.by.p.0 c.get_size.result c.get_size.new.machine.processes c.get_size.new.machine.files _ _ terms it 2 code known
    (c.get_size.ensures.call now m was it terms tied stands open_is)

pub returns-in-5-clause-call : goal.returns-in-5-clause-call
returns-in-5-clause-call g c now m was it terms tied stands open_is =
    let code = (regs_at m c.args.by.p.0).b in
    let same : c.args.by.regs.b ≡ code = ap (λ (r : Regs). r.b) (called-regs c.args.by c.args.machine.now.processes m c.requires.calls.calls tied) in
    let known : 5 ≡ code = omega arith in
    by-code m was now c.args.by.p.0 c.answer-in-5.result c.answer-in-5.new.s _ _ _ terms it 5 code known
    (position-told m was now c.args.by.p.0 c.answer-in-5.result c.answer-in-5.new.s c.args.machine.now.files
    _ _ terms it c.args.by.regs (called-regs c.args.by c.args.machine.now.processes m c.requires.calls.calls tied) stands
    (uncalled-by c.args.machine.now.files c.args.by.p.0 c.answer-in-5.ensures.io) c.args.opened.now open_is c.answer-in-5.ensures.end
    (subst (λ (r : Regs). RepresentsProcesses c.answer-in-5.new.s (with_regs_of m c.args.by.p.0 r)) c.long_regs-regs.ensures (c.answer-in-5.ensures.tied m tied)))

pub returns-in-6-clause-call : goal.returns-in-6-clause-call
returns-in-6-clause-call g c now m was it terms tied stands open_is =
    let code = (regs_at m c.args.by.p.0).b in
    let same : c.args.by.regs.b ≡ code = ap (λ (r : Regs). r.b) (called-regs c.args.by c.args.machine.now.processes m c.requires.calls.calls tied) in
    let known : 6 ≡ code = omega arith in
    by-code m was now c.args.by.p.0 c.get_end.result c.get_end.new.machine.processes c.get_end.new.machine.files _ _ terms it 6 code known
    (c.get_end.ensures.call now m was it terms tied stands open_is)

pub returns-in-15-clause-call : goal.returns-in-15-clause-call
returns-in-15-clause-call g c now m was it terms tied stands open_is =
    let code = (regs_at m c.args.by.p.0).b in
    let same : c.args.by.regs.b ≡ code = ap (λ (r : Regs). r.b) (called-regs c.args.by c.args.machine.now.processes m c.requires.calls.calls tied) in
    let known : 15 ≡ code = omega arith in
    by-code m was now c.args.by.p.0 c.get_descriptor.result c.get_descriptor.new.machine.processes c.get_descriptor.new.machine.files _ _ terms
    it 15 code known (c.get_descriptor.ensures.call now m was it terms tied stands open_is)

pub returns-in_default-clause-call : goal.returns-in_default-clause-call
returns-in_default-clause-call g c now m was it terms tied stands open_is =
    let code = (regs_at m c.args.by.p.0).b in
    let same : c.args.by.regs.b ≡ code = ap (λ (r : Regs). r.b) (called-regs c.args.by c.args.machine.now.processes m c.requires.calls.calls tied) in
    getting-unknown m was now c.args.by.p.0 c.refuse.result c.args.machine.now.processes c.args.machine.now.files _ _ terms it
    c.args.by.regs (called-regs c.args.by c.args.machine.now.processes m c.requires.calls.calls tied) stands (uncalled-by c.args.machine.now.files c.args.by.p.0 c.refuse.ensures.io) code
    (λ e. absurd (omega arith)) (λ e. absurd (omega arith)) (λ e. absurd (omega arith)) (λ e. absurd (omega arith)) (λ e. absurd (omega arith)) (λ e. absurd (omega arith)) c.refuse.ensures.end tied
