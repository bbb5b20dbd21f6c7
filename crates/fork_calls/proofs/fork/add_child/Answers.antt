use Rattle.std.proofs.Common.{Option, sym, ap, subst, ◌∙◌}
use Rattle.std.specs.Prelude.{IfSome}
use Rattle.os9_base.specs.declared.registers.Pid.{Pid}
use Rattle.proc_model.specs.Records.{record_at, free_process}
use Rattle.proc_model.specs.Processes.{Processes, with_own}
use Rattle.proc_state.specs.Beginning.{with_made}
use Rattle.proc_state.specs.Tie.{RepresentsProcesses}
use Rattle.fork_calls.proofs.Forking.{made-child, child-added}
use Rattle.fork_calls.proofs.fork.add_child.Goals as goal

pub returns-clause-tied : goal.returns-clause-tied
returns-clause-tied c m tied =
    let p = c.args.p in
    let child = c.args.child in
    let made = c.unwrap-made.result in
    let user = c.user-user.result in
    let priority = c.priority-priority.result in
    let owned : Processes = with_own m child.0 c.args.start.own in
    let begun : RepresentsProcesses c.make.new.self (with_made owned made p user priority) =
    subst (λ (place : Option Pid). IfSome place (λ q. RepresentsProcesses c.make.new.self (with_made owned q p user priority))) c.unwrap-made.ensures
    (c.make.ensures.made owned (c.set_own.ensures.tied m tied)) in
    subst (RepresentsProcesses c.set_regs.new.self)
    (child-added m p child made c.args.start user priority
    (made-child c.make.result made _ child c.unwrap-made.ensures (c.make.ensures.number ∙ ap free_process c.set_own.ensures.records) c.requires.free)
    (c.user-user.ensures.user ∙ ap (λ (s : Processes). (record_at s.records p.0).user) (sym tied.is))
    (c.priority-priority.ensures.priority ∙ ap (λ (s : Processes). (record_at s.records p.0).priority) (sym tied.is)))
    (c.set_regs.ensures.tied (with_made owned made p user priority) begun)
