use Rattle.std.proofs.Common.{◌≡◌, ap, arith}
use Rattle.os9_base.specs.declared.registers.Regs.{Regs}
use Rattle.proc_model.specs.Processes.{regs_at}
use Rattle.io_state.proofs.RequesterLemmas.{called-regs}
use Rattle.file_state.proofs.RequestLemmas.{lacks-none}
use Rattle.file_status.proofs.CodeLemmas.{set-by-code, setting-unknown}
use Rattle.file_status.proofs.StandLemmas.{uncalled-by}
use Rattle.file_status.proofs.sets.set_status_of.Goals as goal

pub returns-in_default-clause-call : goal.returns-in_default-clause-call
returns-in_default-clause-call g c m was it terms tied stands open_is =
    let code = (regs_at m c.args.by.p.0).b in
    let same : c.args.by.regs.b ≡ code = ap (λ (r : Regs). r.b) (called-regs c.args.by c.args.machine.now.processes m c.requires.calls.calls tied) in
    setting-unknown m was c.args.by.time c.args.by.p.0 c.refuse.result c.args.machine.now.processes c.args.machine.now.files _ _
    terms it c.args.by.regs (called-regs c.args.by c.args.machine.now.processes m c.requires.calls.calls tied) stands (uncalled-by c.args.machine.now.files c.args.by.p.0 c.refuse.ensures.io) _ code
    (λ e. absurd (omega arith)) (λ e. absurd (omega arith)) (λ e. absurd (omega arith)) (λ e. absurd (omega arith)) c.refuse.ensures.end tied

pub returns-in-2-clause-call : goal.returns-in-2-clause-call
returns-in-2-clause-call g c m was it terms tied stands open_is =
    let code = (regs_at m c.args.by.p.0).b in
    let same : c.args.by.regs.b ≡ code = ap (λ (r : Regs). r.b) (called-regs c.args.by c.args.machine.now.processes m c.requires.calls.calls tied) in
    let known : 2 ≡ code = omega arith in
    set-by-code m was c.args.by.time c.args.by.p.0 c.set_size.result c.set_size.new.machine.processes c.set_size.new.machine.files _ _ terms it 2 code known
    (c.set_size.ensures.call m was it terms tied stands open_is)

pub returns-in-16-clause-call : goal.returns-in-16-clause-call
returns-in-16-clause-call g c m was it terms tied stands open_is =
    let code = (regs_at m c.args.by.p.0).b in
    let same : c.args.by.regs.b ≡ code = ap (λ (r : Regs). r.b) (called-regs c.args.by c.args.machine.now.processes m c.requires.calls.calls tied) in
    let known : 16 ≡ code = omega arith in
    set-by-code m was c.args.by.time c.args.by.p.0 c.set_ticks.result c.set_ticks.new.machine.processes c.set_ticks.new.machine.files _ _ terms it 16
    code known (lacks-none _ _ m was c.args.by.time c.args.by.p.0 c.set_ticks.result c.set_ticks.new.machine.processes
    c.set_ticks.new.machine.files _ _ terms (c.set_ticks.ensures.call c.args.by.time _ m was it terms tied stands open_is))

pub returns-in-17-clause-call : goal.returns-in-17-clause-call
returns-in-17-clause-call g c m was it terms tied stands open_is =
    let code = (regs_at m c.args.by.p.0).b in
    let same : c.args.by.regs.b ≡ code = ap (λ (r : Regs). r.b) (called-regs c.args.by c.args.machine.now.processes m c.requires.calls.calls tied) in
    let known : 17 ≡ code = omega arith in
    set-by-code m was c.args.by.time c.args.by.p.0 c.set_lock.result c.set_lock.new.machine.processes c.set_lock.new.machine.files _ _ terms it 17 code known
    (c.set_lock.ensures.call c.args.by.time m was it terms tied stands open_is)

pub returns-in-28-clause-call : goal.returns-in-28-clause-call
returns-in-28-clause-call g c m was it terms tied stands open_is =
    let code = (regs_at m c.args.by.p.0).b in
    let same : c.args.by.regs.b ≡ code = ap (λ (r : Regs). r.b) (called-regs c.args.by c.args.machine.now.processes m c.requires.calls.calls tied) in
    let known : 28 ≡ code = omega arith in
    set-by-code m was c.args.by.time c.args.by.p.0 c.set_attributes.result c.set_attributes.new.machine.processes c.set_attributes.new.machine.files
    _ _ terms it 28 code known (lacks-none _ _ m was c.args.by.time c.args.by.p.0 c.set_attributes.result
    c.set_attributes.new.machine.processes c.set_attributes.new.machine.files _ _ terms (c.set_attributes.ensures.call m was it terms tied
    stands open_is))
