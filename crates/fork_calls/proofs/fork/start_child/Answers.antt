use Rattle.std.proofs.Common.{◌≡◌, Some, None, take, refl, sym, ap, subst, ◌∙◌}
use Rattle.std.proofs.lemmas.Result.{err_from_is_err_and}
use Rattle.os9_base.specs.declared.errors.TheConstants.{E_PRCFUL}
use Rattle.os9_base.specs.declared.registers.Regs.{Regs}
use Rattle.proc_model.specs.Records.{free_process}
use Rattle.proc_model.specs.Fork.{with_child, forked_regs}
use Rattle.proc_model.specs.Chain.{with_program}
use Rattle.proc_model.specs.Processes.{Processes, regs_at, with_regs_of}
use Rattle.proc_model.specs.Program.{Program}
use Rattle.proc_calls.proofs.Steps.{refused-answers, done-answers, refused-alone}
use Rattle.proc_state.specs.Tie.{RepresentsProcesses}
use Rattle.fork_calls.specs.Loading.{with_new_child}
use Rattle.fork_calls.specs.Naming.{meant}
use Rattle.fork_calls.specs.Starting.{starts_child}
use Rattle.fork_calls.proofs.Forking.{child_next, fork-full, fork-child}
use Rattle.fork_calls.proofs.fork.start_child.Goals as goal

pub returns-in_default-clause-call : goal.returns-in_default-clause-call
returns-in_default-clause-call c m entry tied is =
    let p = c.args.p.0 in
    let program : Program = meant c.args.program entry (take c.args.program.parameters c.args.s.now.buffer.items) in
    let none : free_process m.records ≡ None = ap (λ (s : Processes). free_process s.records) tied.is ∙ sym c.in_default.ensures.number in
    refused-alone m (starts_child m p program) E_PRCFUL c.args.s.now (fork-full m p program none) tied

pub returns-in_err-start-clause-call : goal.returns-in_err-start-clause-call
returns-in_err-start-clause-call c m entry tied is =
    let p = c.args.p.0 in
    let child = c.in-Some.child.0 in
    let program : Program = meant c.args.program entry (take c.args.program.parameters c.args.s.now.buffer.items) in
    let some : free_process m.records ≡ Some child = ap (λ (s : Processes). free_process s.records) tied.is ∙ sym c.in-Some.ensures.number in
    let not = c.in_err-start.ensures.loaded m entry tied is in
    refused-answers m (starts_child m p program) c.in_err-start.field-0.0 c.from_residual.result c.load_program.new.s
    (err_from_is_err_and c.from_residual.result c.from_residual.ensures.1)
    (fork-child m p program child some ∙ not.goes (child_next m p program child)) not.stands

pub returns-clause-call : goal.returns-clause-call
returns-clause-call c m entry tied is =
    let p = c.args.p.0 in
    let child = c.in-Some.child.0 in
    let program : Program = meant c.args.program entry (take c.args.program.parameters c.args.s.now.buffer.items) in
    let some : free_process m.records ≡ Some child = ap (λ (s : Processes). free_process s.records) tied.is ∙ sym c.in-Some.ensures.number in
    let loaded = c.in_ok-start.ensures.loaded m entry tied is in
    let t : Processes = with_program m child program loaded.memory in
    let forked_is : c.forked_regs.result ≡ forked_regs (regs_at m p) child program =
    c.forked_regs.ensures program refl ∙ ap (λ (r : Regs). forked_regs r child program) (c.regs-regs.ensures.tied m tied) in
    done-answers m (starts_child m p program) (with_regs_of (with_child m p child program loaded.memory) p (forked_regs (regs_at m p) child program)) c.set_regs.new.self
    (fork-child m p program child some ∙ loaded.goes (child_next m p program child))
    (subst (RepresentsProcesses c.set_regs.new.self) (λ i. with_regs_of (with_new_child t p child (record { regs = loaded.regs i; own = loaded.own i })) p (forked_is i))
    (c.set_regs.ensures.tied _ (c.add_child.ensures.tied t loaded.stands)))
