use Rattle.std.proofs.Common.{subst, take}
use Rattle.std.proofs.lemmas.Result.{err_from_is_err_and}
use Rattle.proc_model.specs.Chain.{begun_anew, with_program}
use Rattle.proc_model.specs.Processes.{Processes, own_at}
use Rattle.proc_model.specs.ModuleLinks.{without_primary_link}
use Rattle.proc_model.specs.Program.{Program}
use Rattle.proc_calls.proofs.Steps.{refused-answers, done-answers}
use Rattle.proc_state.specs.Tie.{RepresentsProcesses}
use Rattle.fork_calls.specs.Naming.{meant}
use Rattle.fork_calls.specs.Starting.{starts_anew}
use Rattle.fork_calls.proofs.Chaining.{anew_next, begun_so-anew}
use Rattle.fork_calls.proofs.chain.start_anew.Goals as goal

pub returns-in_err-start-clause-call : goal.returns-in_err-start-clause-call
returns-in_err-start-clause-call c m entry tied is =
    let p = c.args.p.0 in
    let program : Program = meant c.args.program entry (take c.args.program.parameters c.args.s.now.buffer.items) in
    let refused = c.in_err-start.ensures.loaded m entry tied is in
    refused-answers m (starts_anew m p program) c.in_err-start.field-0.0 c.from_residual.result c.load_program.new.s
    (err_from_is_err_and c.from_residual.result c.from_residual.ensures.1)
    (refused.goes (anew_next m p program)) refused.stands

pub returns-clause-call : goal.returns-clause-call
returns-clause-call c m entry tied is =
    let p = c.args.p.0 in
    let program : Program = meant c.args.program entry (take c.args.program.parameters c.args.s.now.buffer.items) in
    let loaded = c.in_ok-start.ensures.loaded m entry tied is in
    let held : Processes = with_program m p program loaded.memory in
    done-answers m (starts_anew m p program) (without_primary_link (begun_anew held p program) (own_at m p)) c.begin_anew.new.s
    (loaded.goes (anew_next m p program))
    (subst (λ (t : Processes). RepresentsProcesses c.begin_anew.new.s (without_primary_link t (own_at m p))) (begun_so-anew held p program c.in_ok-start.start loaded.regs loaded.own)
    (c.begin_anew.ensures.tied held loaded.stands))
